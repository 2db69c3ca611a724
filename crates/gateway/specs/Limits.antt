-- The limits of a gateway processor's figures. Assumes nothing.
use Rattle.std.specs.Prelude.{ℕ}
use Rattle.frames.specs.Limits.{Within}

abbrev pub LawfulFixed : ℕ → Type 0
LawfulFixed fixed = Within 1000 fixed 100000

abbrev pub LawfulByte : ℕ → Type 0
LawfulByte byte = Within 0 byte 1000
