-- Lists in which nothing occurs twice. Assumes nothing.
use Rattle.std.specs.Prelude.{ℕ, Bool, true, not, ◌&&◌, List, [], ◌∷◌, ◌==◌, ◌≢◌}
use Rattle.std.specs.List.{AllByRecursion}
use Rattle.shelf.specs.Folds.{every}

-- no element is there twice
abbrev pub Apart : {X : Type 0} → List X → Type 0
Apart [] = Unit {0}
Apart (x ∷ xs) = AllByRecursion (λ y. y ≢ x) xs × Apart xs

-- the same as a test, of numbers
abbrev pub apart : List ℕ → Bool
apart [] = true
apart (x ∷ xs) = every (λ y. not (y == x)) xs && apart xs
