-- The smallest number of a range that has a property. Assumes nothing.
use Rattle.std.specs.Prelude.{ℕ, zero, suc, ◌-◌, ◌<◌, ◌≤◌, Bool, cond, Some, None, Option, nat_eq}

-- o is the smallest number from low to high of which P holds, or none where there is no such number
abbrev pub Smallest : (ℕ → Type 0) → ℕ → ℕ → Option ℕ → Type 0
Smallest P low high (Some w) = (low ≤ w) × (w ≤ high) × P w × ((v : ℕ) → low ≤ v → v < w → P v → ⊥)
Smallest P low high None = (v : ℕ) → low ≤ v → v ≤ high → P v → ⊥

-- the first of n numbers from low on that passes a test
unfoldable pub first_of : (ℕ → Bool) → ℕ → ℕ → Option ℕ
first_of t low zero = None
first_of t low (suc n) = cond (t low) (Some low) (first_of t (suc low) n)

-- the smallest number from low to high that passes a test
unfoldable pub smallest : (ℕ → Bool) → ℕ → ℕ → Option ℕ
smallest t low high = first_of t low (suc high - low)

-- the smallest w from low to high with w = rule w
unfoldable pub solution : (ℕ → ℕ) → ℕ → ℕ → Option ℕ
solution rule low high = smallest (λ w. nat_eq w (rule w)) low high
