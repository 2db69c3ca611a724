-- What being in time keeps. Assumes nothing.
use Rattle.std.specs.Prelude.{◌≡◌, Bool, true, List, ◌∷◌}
use Rattle.shelf.specs.Picks.{Perm}

-- t f us ls: f is in time with us above and ls below
pub record Laws {F : Type 0} (t : F → List F → List F → Bool) : Type 0 where
  pub above : (f : F) (us us' ls : List F) → Perm us us' → t f us ls ≡ t f us' ls
  pub below : (f : F) (us ls ls' : List F) → Perm ls ls' → t f us ls ≡ t f us ls'
  pub fewer_above : (f x : F) (us ls : List F) → t f (x ∷ us) ls ≡ true → t f us ls ≡ true
  pub fewer_below : (f x : F) (us ls : List F) → t f us (x ∷ ls) ≡ true → t f us ls ≡ true
  pub lowered : (f x : F) (us ls : List F) → t f (x ∷ us) ls ≡ true → t f us (x ∷ ls) ≡ true
