use Rattle.std.proofs.Common.{◌≡◌, length, ◌∙◌, arith}
use Rattle.packing.specs.Holds.{held}
use Rattle.ordering.proofs.Looking.{equal_above}
use Rattle.plan.proofs.Readings.{member_is}
use Rattle.plan.proofs.closed.Closed.in_conflict.Goals as goal

pub returns-in-Clashing : goal.returns-in-Clashing
returns-in-Clashing g c =
    let wide : length c.in-Clashing.conflict.table ≡ 96 = omega arith in
    member_is (held c.args.self.now.tables) c.args.self.now.standing c.args.n c.in_ok-check_frame.ensures.0 c.in-Clashing.conflict c.in-Clashing.is c.eq.result (c.eq.ensures ∙ equal_above _) (omega (arith, c.in_ok-check_frame.ensures.1))
