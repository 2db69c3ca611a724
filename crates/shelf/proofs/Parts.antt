-- Lists with some elements taken out. Assumes nothing.
use Rattle.std.proofs.Common.{◌≡◌, Bool, true, false, cond, List, [], ◌∷◌, filter, sym, refl, ap, ◌∙◌, subst}
use Rattle.std.proofs.lemmas.Bool.{cond_both}
use Rattle.shelf.specs.Picks.{Pick, Perm, Part}
use Rattle.shelf.specs.Picks.Pick.{here, there}
use Rattle.shelf.specs.Picks.Perm.{done, next}
use Rattle.shelf.specs.Picks.Part.{whole, less}

module _ {X : Type 0} where
  pub part_cons : (x : X) {xs ys : List X} → Part xs ys → Part (x ∷ xs) (x ∷ ys)
  part_cons x whole = whole
  part_cons x (less p q) = less (there p) (part_cons x q)

  pub part_trans : {xs ys zs : List X} → Part xs ys → Part ys zs → Part xs zs
  part_trans whole q = q
  part_trans (less k p) q = less k (part_trans p q)

  pub part_kept : (p : X → Bool) (xs : List X) → Part xs (filter p xs)
  part_kept p [] = whole
  part_kept p (x ∷ xs) =
      cond_both (p x) _ _ (Part (x ∷ xs)) (λ _. part_cons x (part_kept p xs)) (λ _. less (here refl) (part_kept p xs))

module _ {X : Type 0} (q : X → Bool) where
  pub pick_kept_in : {x : X} {xs r : List X} → Pick x xs r → q x ≡ true → Pick x (filter q xs) (filter q r)
  pick_kept_in {x} (here {y = y} {r = r} e) t =
      let b : y ∷ filter q r ≡ filter q (y ∷ r) = let c = sym (ap q e) ∙ t in simp c in
      subst (λ l. Pick x l (filter q r)) b (here e)
  pick_kept_in {x} (there {y = y} {xs = xs} {r = r} p) t =
      let ih = pick_kept_in p t in
      elim (q y) as (λ b. Pick x (cond b (y ∷ filter q xs) (filter q xs)) (cond b (y ∷ filter q r) (filter q r))) [ true ↦ there ih | false ↦ ih ]

  pub pick_kept_out : {x : X} {xs r : List X} → Pick x xs r → q x ≡ false → filter q xs ≡ filter q r
  pick_kept_out (here {y = y} {r = r} e) t = let c = sym (ap q e) ∙ t in simp c
  pick_kept_out (there {y = y} p) t = ap (λ l. cond (q y) (y ∷ l) l) (pick_kept_out p t)

  pub perm_kept : {xs ys : List X} → Perm xs ys → Perm (filter q xs) (filter q ys)
  perm_kept done = done
  perm_kept (next {x = x} {xs = xs} {r = r} {ys = ys} p k) = go (q x) refl (perm_kept k)
    where
      go : (b : Bool) → q x ≡ b → Perm (filter q r) (filter q ys) → Perm (filter q xs) (cond b (x ∷ filter q ys) (filter q ys))
      go true e ih = next (pick_kept_in p e) ih
      go false e ih = subst (λ l. Perm l (filter q ys)) (sym (pick_kept_out p e)) ih

module _ {X : Type 0} where
  -- one that passes, picked out of the whole list
  pub pick_kept : (q : X → Bool) (xs : List X) (y : X) (r : List X) → Pick y (filter q xs) r → (s : List X) × Pick y xs s × Part s r × (q y ≡ true)
  pick_kept q [] y r p = elim p [ ]
  pick_kept q (x ∷ xs) y r p = go (q x) refl r p (pick_kept q xs y)
    where
      go : (b : Bool) → q x ≡ b → (r : List X) → Pick y (cond b (x ∷ filter q xs) (filter q xs)) r → ((r : List X) → Pick y (filter q xs) r → (s : List X) × Pick y xs s × Part s r × (q y ≡ true))
          → (s : List X) × Pick y (x ∷ xs) s × Part s r × (q y ≡ true)
      go true h r (here e) ih = (xs, here e, part_kept q xs, ap q e ∙ h)
      go true h r (there {r = r'} p) ih = let i = ih r' p in (x ∷ i.0, there i.1, part_cons x i.2, i.3)
      go false h r p ih = let i = ih r p in (x ∷ i.0, there i.1, less (here refl) i.2, i.3)
