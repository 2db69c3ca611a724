-- Orders from the last place up. Assumes nothing.
use Rattle.std.proofs.Common.{◌≡◌, Bool, true, List, [], ◌∷◌, ◌++◌, reverse, sym, refl, ap, ◌∙◌, subst, append-nil}
use mathlib.Core.List.{reverse_aux, reverse-reverse, head-eq_of_cons-eq, tail-eq_of_cons-eq, nil≢cons}
use Rattle.shelf.specs.Picks.{Pick, Perm, Part}
use Rattle.shelf.specs.Picks.Pick.{here, there}
use Rattle.shelf.specs.Picks.Perm.{next}
use Rattle.shelf.specs.Picks.Part.{whole, less}
use Rattle.timing.specs.Laws.{Laws}
use Rattle.ordering.specs.Orders.{Meets, HasOrder}
use Rattle.shelf.proofs.Perms.{perm_trans, perm_picked, perm_cons, perm_swap, reversed, perm_middle, taken}

-- zs from the last place up, over ls that have the places below
abbrev pub Fits : {F : Type 0} → (F → List F → List F → Bool) → List F → List F → Type 0
Fits t [] ls = Unit {0}
Fits t (z ∷ zs) ls = (t z zs ls ≡ true) × Fits t zs (z ∷ ls)

abbrev pub Ordered : {F : Type 0} → (F → List F → List F → Bool) → List F → List F → Type 0
Ordered {F} t xs ls = (zs : List F) × Perm xs zs × Fits t zs ls

-- each of ls is in time, with zs above too
abbrev Under : {F : Type 0} → (F → List F → List F → Bool) → List F → List F → Type 0
Under {F} t zs ls = (p : List F) (f : F) (q : List F) → ls ≡ p ++ (f ∷ q) → t f (zs ++ p) q ≡ true

module _ {F : Type 0} {t : F → List F → List F → Bool} (laws : Laws t) where
  fits_below : (zs : List F) {ls ls' : List F} → Perm ls ls' → Fits t zs ls → Fits t zs ls'
  fits_below [] p h = tt
  fits_below (z ∷ zs) {ls} {ls'} p h = (sym (laws.below z zs ls ls' p) ∙ h.0, fits_below zs (perm_cons z p) h.1)

  fits_fewer : (zs : List F) (x : F) (ls : List F) → Fits t zs (x ∷ ls) → Fits t zs ls
  fits_fewer [] x ls h = tt
  fits_fewer (z ∷ zs) x ls h = (laws.fewer_below z x zs ls h.0, fits_fewer zs x (z ∷ ls) (fits_below zs (perm_swap z x ls) h.1))

  front : {x : F} {us us' : List F} (f : F) (ls : List F) → Pick x us us' → t f us ls ≡ true → t f (x ∷ us') ls ≡ true
  front {x} {us} {us'} f ls p h = sym (laws.above f us (x ∷ us') ls (perm_picked p)) ∙ h

  -- x goes from its place to the place under all of zs
  remove : {x : F} {zs zs' : List F} → Pick x zs zs' → (ls : List F) → Fits t zs ls → Fits t zs' (x ∷ ls)
  remove (here {r = r} e) ls h = subst (λ y. Fits t r (y ∷ ls)) (sym e) h.1
  remove {x} (there {y = z} {r = r} p) ls h = (laws.lowered z x r ls (front z ls p h.0), fits_below r (perm_swap x z ls) (remove p (z ∷ ls) h.1))

  lose : {x : F} {zs zs' : List F} → Pick x zs zs' → (ls : List F) → Fits t zs ls → Fits t zs' ls
  lose (here {y = y} {r = r} e) ls h = fits_fewer r y ls h.1
  lose {x} (there {y = z} {r = r} p) ls h = (laws.fewer_above z x r ls (front z ls p h.0), lose p (z ∷ ls) h.1)

  pub ordered_less : {x : F} {xs xs' ls : List F} → Pick x xs xs' → Ordered t xs ls → Ordered t xs' ls
  ordered_less {ls = ls} p o = let h = taken o.1 p in (h.0, h.2, lose h.1 ls o.2)

  pub ordered_part : {xs ys : List F} → Part xs ys → {ls : List F} → Ordered t xs ls → Ordered t ys ls
  ordered_part whole o = o
  ordered_part (less p q) o = ordered_part q (ordered_less p o)

  -- Audsley: whichever frame is in time at the last place may have it
  pub placed : {x : F} {xs xs' ls : List F} → Pick x xs xs' → Ordered t xs ls → Ordered t xs' (x ∷ ls)
  placed {ls = ls} p o = let h = taken o.1 p in (h.0, h.2, remove h.1 ls o.2)

  pub place : {x : F} {xs xs' ls : List F} → Pick x xs xs' → t x xs' ls ≡ true → Ordered t xs' (x ∷ ls) → Ordered t xs ls
  place {x} {xs} {xs'} {ls} p h o = (x ∷ o.0, next p o.1, (sym (laws.above x xs' o.0 ls o.1) ∙ h, o.2))

  meets_from : (zs : List F) (ls : List F) → Fits t zs ls → Under t zs ls → Meets t (reverse_aux zs ls)
  meets_from [] ls h u = u
  meets_from (z ∷ zs) ls h u = meets_from zs (z ∷ ls) h.1 under
    where
      under : Under t zs (z ∷ ls)
      under [] f q e =
          let a = head-eq_of_cons-eq e in
          let b = tail-eq_of_cons-eq e in
          let c = h.0 in
          cc (append-nil zs)
      under (y ∷ p) f q e =
          let a = head-eq_of_cons-eq e in
          let c = u p f q (tail-eq_of_cons-eq e) in
          cc (laws.above f (z ∷ (zs ++ p)) (zs ++ (z ∷ p)) q (perm_middle z zs p))

  fits_from : (zs : List F) (ls : List F) → Meets t (reverse_aux zs ls) → Fits t zs ls × Under t zs ls
  fits_from [] ls m = (tt, m)
  fits_from (z ∷ zs) ls m =
      let h = fits_from zs (z ∷ ls) m in
      let now : t z zs ls ≡ true = rw append-nil at (h.1 [] z ls refl) in
      ((now, h.0), λ p f q e. laws.above f (z ∷ (zs ++ p)) (zs ++ (z ∷ p)) q (perm_middle z zs p) ∙ h.1 (z ∷ p) f q (ap (λ l. z ∷ l) e))

  under_none : (zs : List F) → Under t zs []
  under_none zs [] f q e = absurd (nil≢cons e)
  under_none zs (y ∷ p) f q e = absurd (nil≢cons e)

  pub meets_fits : (zs : List F) → Fits t zs [] → Meets t (reverse_aux zs [])
  meets_fits zs h = meets_from zs [] h (under_none zs)

  pub has_order : {xs : List F} → Ordered t xs [] → HasOrder t xs
  has_order o = (reverse o.0, perm_trans o.1 (reversed o.0), meets_from o.0 [] o.2 (under_none o.0))

  pub from_order : {xs : List F} → HasOrder t xs → Ordered t xs []
  from_order o = (reverse o.0, perm_trans o.1 (reversed o.0), (fits_from (reverse o.0) [] (rw reverse-reverse o.2)).0)
