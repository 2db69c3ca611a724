use Rattle.std.proofs.Common.{◌≡◌, ◌++◌, drop, length}
use Rattle.fields.specs.Hex.{hex}
use Rattle.fields.proofs.digits.hex.Given as goal

-- with the digits that are still to come, the whole number stands
abbrev pub invariant-loop-i : goal.invariant-loop-i
invariant-loop-i g l = (length l.text ≡ g.row.W) × (hex l.i l.rest ++ drop l.i l.text ≡ hex g.row.W l.v)
