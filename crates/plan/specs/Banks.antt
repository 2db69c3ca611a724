-- What a bank means to a plan. Assumes nothing.
use Rattle.std.specs.Prelude.{ℕ, Bool, List, Option}
use Rattle.frames.specs.declared.row.Row.{Row}
use Rattle.timing.specs.Everywhere.{everywhere}

-- how many domains, what a payload costs in each, and the response time there of a frame below some and above others
pub record Bank : Type 0 where
  pub domains : ℕ
  pub cost : ℕ → ℕ → ℕ
  pub response : ℕ → Row → List Row → List Row → Option ℕ

abbrev pub bank_of : ℕ → (ℕ → ℕ → ℕ) → (ℕ → Row → List Row → List Row → Option ℕ) → Bank
bank_of n c r = record { domains = n; cost = c; response = r }

-- in time in every domain of its set
abbrev pub in_time : Bank → Row → List Row → List Row → Bool
in_time m = everywhere m.response
