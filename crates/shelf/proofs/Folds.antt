-- Minima and maxima over a list. Assumes nothing.
use Rattle.std.proofs.Common.{◌≡◌, ℕ, ◌≤◌, min, Bool, List, [], ◌∷◌, ◌++◌, Decides, refl, ⊎_elim, le_refl, arith}
use Rattle.std.specs.List.{AllByRecursion}
use Rattle.std.proofs.ByRecursion.{All-weaker, Decides-by_and}
use Rattle.std.proofs.lemmas.Bool.{cases_lt}
use Rattle.shelf.specs.Folds.{every, least, Least, most}
use Rattle.shelf.specs.Picks.Pick.{here, there}

module _ {X : Type 0} (f : X → ℕ) where
  pub least_le : (m : ℕ) (xs : List X) → least f m xs ≤ m
  least_le m [] = le_refl m
  least_le m (x ∷ xs) = omega (arith, least_le m xs)

  pub least_mono : (m n : ℕ) (xs : List X) → m ≤ n → least f m xs ≤ least f n xs
  least_mono m n [] h = h
  least_mono m n (x ∷ xs) h = omega (arith, least_mono m n xs h)

  -- a running minimum
  pub least_min : (m p : ℕ) (xs : List X) → least f (min m p) xs ≡ min p (least f m xs)
  least_min m p [] = omega arith
  least_min m p (x ∷ xs) = omega (arith, least_min m p xs)

  pub least_push : (m : ℕ) (xs : List X) (x : X) → least f m (xs ++ (x ∷ [])) ≡ min (least f m xs) (f x)
  least_push m [] x = omega arith
  least_push m (y ∷ xs) x = omega (arith, least_push m xs x)

  pub le_least : (n m : ℕ) (xs : List X) → n ≤ m → AllByRecursion (λ x. n ≤ f x) xs → n ≤ least f m xs
  le_least n m [] h a = h
  le_least n m (x ∷ xs) h a = omega (arith, a.0, le_least n m xs h a.1)

  pub least_each : (m : ℕ) (xs : List X) → AllByRecursion (λ x. least f m xs ≤ f x) xs
  least_each m [] = tt
  least_each m (x ∷ xs) =
      (omega arith, All-weaker (λ y. least f m xs ≤ f y) (λ y. least f m (x ∷ xs) ≤ f y) (λ y h. omega arith) xs (least_each m xs))

  -- the first number is none of those in the list, and not below all
  pub least_is : (m : ℕ) (x : X) (xs : List X) → AllByRecursion (λ y. f y ≤ m) (x ∷ xs) → Least f (x ∷ xs) (least f m (x ∷ xs))
  least_is m x [] a =
      record { one = x; among = ([], here refl); is = omega (arith, a.0); least = least_each m (x ∷ []) }
  least_is m x (y ∷ ys) a =
      let rest = least_is m y ys a.1 in
      let h = least_each m (x ∷ y ∷ ys) in
      ⊎_elim {C = Least f (x ∷ y ∷ ys) (least f m (x ∷ y ∷ ys))}
      (λ l. record { one = rest.one; among = (x ∷ rest.among.0, there rest.among.1); is = omega (arith, rest.is); least = h })
      (λ l. record { one = x; among = (y ∷ ys, here refl); is = omega arith; least = h })
      (cases_lt (least f m (y ∷ ys)) (f x))

  pub most_le : (n : ℕ) (xs : List X) → AllByRecursion (λ x. f x ≤ n) xs → most f xs ≤ n
  most_le n [] h = omega arith
  most_le n (x ∷ xs) h = omega (arith, h.0, most_le n xs h.1)

pub decides_every : {X : Type 0} (t : X → Bool) (P : X → Type 0) → ((x : X) → Decides (t x) (P x)) → (xs : List X) → Decides (every t xs) (AllByRecursion P xs)
decides_every t P d xs = Decides-by_and t P (every t) d refl (λ _ _. refl) xs

pub least_below : {X : Type 0} (f g : X → ℕ) (m : ℕ) (xs : List X) → AllByRecursion (λ x. f x ≤ g x) xs → least f m xs ≤ least g m xs
least_below f g m [] h = le_refl m
least_below f g m (x ∷ xs) h = omega (arith, h.0, least_below f g m xs h.1)
