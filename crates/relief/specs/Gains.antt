-- What a frame gains between two answers. Assumes nothing.
use Rattle.std.specs.Prelude.{◌≡◌, ℕ, ◌-◌, ◌≤◌, Some, None, Option}

-- a time before stays a time after that is no later, and the gain is their difference
abbrev pub Gains : Option ℕ → Option ℕ → Option ℕ → Type 0
Gains None after r = r ≡ None
Gains (Some t) after r = (u : ℕ) × (after ≡ Some u) × (u ≤ t) × (r ≡ Some (t - u))
