-- The limits of a bus's figures. Assumes nothing.
use Rattle.std.specs.Prelude.{ℕ}
use Rattle.frames.specs.Limits.{Within}

abbrev pub LawfulArbitration : ℕ → Type 0
LawfulArbitration arbitration = Within 1000 arbitration 8000

-- a data bit takes no longer than an arbitration bit
abbrev pub LawfulData : ℕ → ℕ → Type 0
LawfulData arbitration bit = Within 125 bit arbitration
