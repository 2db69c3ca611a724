-- Two tests that agree on a list find the same. Assumes nothing.
use Rattle.std.proofs.Common.{◌≡◌, ℕ, Bool, List, [], ◌∷◌, refl}
use Rattle.shelf.specs.Picks.{Pick}
use Rattle.shelf.specs.Picks.Pick.{here, there}
use Rattle.ordering.specs.Orders.{found, examined}

-- two tests that agree on the list
pub found_same : (p q : ℕ → Bool) (xs : List ℕ) → ((x : ℕ) (r : List ℕ) → Pick x xs r → p x ≡ q x) → found p xs ≡ found q xs
found_same p q [] h = refl
found_same p q (x ∷ xs) h =
    let a = h x xs (here refl) in
    let b = found_same p q xs (λ y r k. h y (x ∷ r) (there k)) in
    cc

pub examined_same : (p q : ℕ → Bool) (xs : List ℕ) → ((x : ℕ) (r : List ℕ) → Pick x xs r → p x ≡ q x) → examined p xs ≡ examined q xs
examined_same p q [] h = refl
examined_same p q (x ∷ xs) h =
    let a = h x xs (here refl) in
    let b = examined_same p q xs (λ y r k. h y (x ∷ r) (there k)) in
    cc
