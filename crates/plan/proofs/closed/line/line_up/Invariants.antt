use Rattle.std.proofs.Common.{◌≡◌, map, take}
use Rattle.packing.specs.Holds.{held}
use Rattle.packing.specs.Packings.{row}
use Rattle.plan.proofs.closed.line.line_up.Given as goal

abbrev pub invariant-loop-n : goal.invariant-loop-n
invariant-loop-n l = l.rows.items ≡ map (row (held l.tables)) (take l.n-index l.numbers)
