-- The limits of a radio link's figure. Assumes nothing.
use Rattle.std.specs.Prelude.{ℕ}
use Rattle.frames.specs.Limits.{Within}

abbrev pub LawfulByte : ℕ → Type 0
LawfulByte byte = Within 10000 byte 200000
