-- Tests, minima and maxima over a list. Assumes nothing.
use Rattle.std.specs.Prelude.{◌≡◌, ℕ, ◌≤◌, min, max, Bool, true, ◌&&◌, List, [], ◌∷◌}
use Rattle.std.specs.List.{AllByRecursion}
use Rattle.shelf.specs.Picks.{Among}

-- each element passes
abbrev pub every : {X : Type 0} → (X → Bool) → List X → Bool
every t [] = true
every t (x ∷ xs) = t x && every t xs

-- the smallest of m and of f over the list
abbrev pub least : {X : Type 0} → (X → ℕ) → ℕ → List X → ℕ
least f m [] = m
least f m (x ∷ xs) = min (f x) (least f m xs)

-- in words: m is the smallest of f over the list. One of them has it, and none is below
pub record Least {X : Type 0} (f : X → ℕ) (xs : List X) (m : ℕ) : Type 0 where
  pub one : X
  pub among : Among one xs
  pub is : f one ≡ m
  pub least : AllByRecursion (λ x. m ≤ f x) xs

-- the largest of f over the list, or 0
abbrev pub most : {X : Type 0} → (X → ℕ) → List X → ℕ
most f [] = 0
most f (x ∷ xs) = max (f x) (most f xs)
