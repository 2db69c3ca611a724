-- Lists in which nothing occurs twice: one more, and one out. Assumes nothing.
use Rattle.std.proofs.Common.{◌≡◌, ℕ, zero, suc, not, eqb, List, [], ◌∷◌, ◌++◌, take, drop, Decides, sym, refl}
use Rattle.std.specs.List.{remove, AllByRecursion}
use Rattle.std.proofs.ByRecursion.{All-push, All-append, All-take, All-drop}
use Rattle.std.proofs.lemmas.Bool.Decides.{Decides-not, Decides-and, Decides-eqb}
use Rattle.shelf.specs.Apart.{Apart, apart}
use Rattle.shelf.specs.Folds.{every}
use Rattle.shelf.proofs.Folds.{decides_every}

other : (x : ℕ) (xs : List ℕ) → Decides (every (λ y. not (eqb y x)) xs) (AllByRecursion (λ y. y ≡ x → ⊥) xs)
other x = decides_every (λ y. not (eqb y x)) (λ y. y ≡ x → ⊥) (λ y. Decides-not (eqb y x) (Decides-eqb y x))

pub decides_apart : (xs : List ℕ) → Decides (apart xs) (Apart xs)
decides_apart [] = (λ _. tt, λ _. refl)
decides_apart (x ∷ xs) = Decides-and _ _ (other x xs) (decides_apart xs)

module _ {X : Type 0} where
  pub apart_push : (xs : List X) (x : X) → Apart xs → AllByRecursion (λ y. y ≡ x → ⊥) xs → Apart (xs ++ (x ∷ []))
  apart_push [] x a h = (tt, tt)
  apart_push (y ∷ xs) x a h =
      (All-push (λ z. z ≡ y → ⊥) xs x a.0 (λ e. h.0 (sym e)), apart_push xs x a.1 h.1)

  pub apart_removed : (xs : List X) (i : ℕ) → Apart xs → Apart (remove xs i)
  apart_removed [] zero a = tt
  apart_removed [] (suc i) a = tt
  apart_removed (x ∷ xs) zero a = a.1
  apart_removed (x ∷ xs) (suc i) a =
      (All-append (λ y. y ≡ x → ⊥) (take i xs) (drop (suc i) xs) (All-take (λ y. y ≡ x → ⊥) i xs a.0) (All-drop (λ y. y ≡ x → ⊥) (suc i) xs a.0), apart_removed xs i a.1)
