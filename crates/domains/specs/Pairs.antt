-- Two domains side by side, told apart by the number. Assumes nothing.
use Rattle.std.specs.Prelude.{ℕ, ◌+◌, ◌-◌, min, cond, nat_lt}

-- a bank is at most four domains
abbrev pub pair_count : ℕ → ℕ → ℕ
pair_count m n = min (m + n) 4

-- the first n numbers are the first's, the later ones, up to four, the second's
abbrev pub by_number : {X : Type 0} → ℕ → ℕ → (ℕ → X) → (ℕ → X) → X → X
by_number n k first second outside = cond (nat_lt k 4) (cond (nat_lt k n) (first k) (second (k - n))) outside
