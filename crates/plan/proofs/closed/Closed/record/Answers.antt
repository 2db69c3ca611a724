use Rattle.plan.proofs.Readings.{record_there}
use Rattle.plan.proofs.closed.Closed.record.Goals as goal

pub unwrap-requires : goal.unwrap-requires
unwrap-requires g c =
    record_there c.row.result c.try_from.result c.try_from.ensures (c.row.ensures.lawful c.in_ok-check_frame.ensures.0)
