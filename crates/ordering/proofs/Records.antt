-- From numbers to records. Assumes nothing.
use Rattle.std.proofs.Common.{◌≡◌, ℕ, Bool, List, [], ◌∷◌, map, refl, subst}
use mathlib.Core.List.{reverse_aux}
use Rattle.timing.specs.Laws.{Laws}
use Rattle.timing.specs.Places.{by_number}
use Rattle.shelf.proofs.Perms.{perm_map, perm_back}
use Rattle.ordering.proofs.Audsley.{Fits, Ordered}

module _ {F : Type 0} (t : F → List F → List F → Bool) (row : ℕ → F) where
  pub laws_by_number : Laws t → Laws (by_number t row)
  laws_by_number laws = record {
    above = λ f us us' ls p. laws.above (row f) (map row us) (map row us') (map row ls) (perm_map row p);
    below = λ f us ls ls' p. laws.below (row f) (map row us) (map row ls) (map row ls') (perm_map row p);
    fewer_above = λ f x us ls. laws.fewer_above (row f) (row x) (map row us) (map row ls);
    fewer_below = λ f x us ls. laws.fewer_below (row f) (row x) (map row us) (map row ls);
    lowered = λ f x us ls. laws.lowered (row f) (row x) (map row us) (map row ls);
  }

  pub fits_to : (zs ls : List ℕ) → Fits (by_number t row) zs ls → Fits t (map row zs) (map row ls)
  fits_to [] ls h = tt
  fits_to (z ∷ zs) ls h = (h.0, fits_to zs (z ∷ ls) h.1)

  pub fits_back : (zs ls : List ℕ) → Fits t (map row zs) (map row ls) → Fits (by_number t row) zs ls
  fits_back [] ls h = tt
  fits_back (z ∷ zs) ls h = (h.0, fits_back zs (z ∷ ls) h.1)

  pub ordered_to : (xs : List ℕ) → Ordered (by_number t row) xs [] → Ordered t (map row xs) []
  ordered_to xs o = (map row o.0, perm_map row o.1, fits_to o.0 [] o.2)

  pub ordered_back : (xs : List ℕ) → Ordered t (map row xs) [] → Ordered (by_number t row) xs []
  ordered_back xs o =
      let h = perm_back row o.1 xs refl in
      (h.0, h.1, fits_back h.0 [] (subst (λ l. Fits t l []) h.2 o.2))

  pub map_onto : (zs ls : List ℕ) → map row (reverse_aux zs ls) ≡ reverse_aux (map row zs) (map row ls)
  map_onto [] ls = refl
  map_onto (z ∷ zs) ls = map_onto zs (z ∷ ls)
