use Rattle.std.proofs.Common.{◌≡◌, ◌++◌, map, take, drop}
use Rattle.packing.specs.Packings.{lower}
use Rattle.packing.specs.Tables.{listed}
use Rattle.packing.proofs.table.SignalTable.close_up.Given as goal

abbrev pub invariant-loop-i : goal.invariant-loop-i
invariant-loop-i l = listed l.self ≡ map (lower l.f) (take l.i (listed l.initial.self)) ++ drop l.i (listed l.initial.self)
