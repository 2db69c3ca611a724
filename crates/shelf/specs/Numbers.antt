-- The elements of a list by their numbers. Assumes nothing.
use Rattle.std.specs.Prelude.{ℕ, ◌+◌, Bool, true, cond, not, List, [], ◌∷◌, filter, ◌==◌}

-- the numbers, counted from i, of the elements that pass
abbrev pub chosen : {P : Type 0} → (P → Bool) → ℕ → List P → List ℕ
chosen test i [] = []
chosen test i (p ∷ ps) = cond (test p) (i ∷ chosen test (i + 1) ps) (chosen test (i + 1) ps)

-- the numbers of all
abbrev pub numbers : {P : Type 0} → ℕ → List P → List ℕ
numbers i ps = chosen (λ _. true) i ps

-- some numbers but for one
abbrev pub without : ℕ → List ℕ → List ℕ
without x xs = filter (λ k. not (k == x)) xs
