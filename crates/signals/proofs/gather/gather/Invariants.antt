use Rattle.std.proofs.Common.{◌≡◌, take}
use Rattle.signals.specs.Riders.{riders}
use Rattle.signals.specs.Rows.{row_by}
use Rattle.signals.proofs.gather.gather.Given as goal

abbrev pub invariant-loop-entry : goal.invariant-loop-entry
invariant-loop-entry l = l.row ≡ row_by (riders l.n (take l.entry-index l.entries))
