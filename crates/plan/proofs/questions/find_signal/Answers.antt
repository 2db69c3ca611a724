use Rattle.packing.specs.Holds.{held}
use Rattle.plan.proofs.Asking.{looked_up}
use Rattle.plan.proofs.questions.find_signal.Goals as goal

pub returns : goal.returns
returns c =
    rw c.ok_or.ensures.value (looked_up c.args.name (held c.args.tables.now).signals c.entries.result.now c.find.result c.entries.ensures.is c.find.ensures)
