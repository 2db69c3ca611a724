-- What the deletion filter leaves. Assumes nothing.
use Rattle.std.proofs.Common.{◌≡◌, ℕ, Bool, true, false, cond, not, eqb, ◌⊎◌, List, [], ◌∷◌, length, is_some, Some, None, Option, sym, refl, ap, ◌∙◌, subst, inl, inr}
use Rattle.std.proofs.lemmas.Bool.{eqb-false, not-true, true≢false, false≢true}
use Rattle.shelf.specs.Picks.{Pick, Part}
use Rattle.shelf.specs.Picks.Pick.{here, there}
use Rattle.shelf.specs.Picks.Part.{whole}
use Rattle.timing.specs.Laws.{Laws}
use Rattle.shelf.specs.Numbers.{without}
use Rattle.shelf.specs.Apart.{Apart}
use Rattle.shelf.proofs.Numbering.{apart_kept, pick_is}
use Rattle.ordering.specs.Orders.{greedy, orderable, shrink, conflict}
use Rattle.shelf.proofs.Parts.{part_kept, part_trans, pick_kept}
use Rattle.ordering.proofs.Audsley.{Ordered, ordered_part}
use Rattle.ordering.proofs.Greedy.{Right, greedy_right}

-- each frame of cs is one of xs, or the rest has an order without it
abbrev pub Needed : (ℕ → List ℕ → List ℕ → Bool) → List ℕ → List ℕ → Type 0
Needed t xs cs = (y : ℕ) (r : List ℕ) → Pick y cs r → ((s : List ℕ) × Pick y xs s) ⊎ Ordered t r []

module _ {t : ℕ → List ℕ → List ℕ → Bool} (laws : Laws t) where
  some_ordered : (cs : List ℕ) (o : Option (List ℕ)) → Right t cs [] o → is_some o ≡ true → Ordered t cs []
  some_ordered cs None r e = absurd (false≢true e)
  some_ordered cs (Some o) r e = (r.0, r.1, r.2)

  none_ordered : (cs : List ℕ) (o : Option (List ℕ)) → Right t cs [] o → is_some o ≡ false → Ordered t cs [] → ⊥
  none_ordered cs None r e = r
  none_ordered cs (Some o) r e = absurd (true≢false e)

  pub orderable_true : (cs : List ℕ) → Apart cs → orderable t cs ≡ true → Ordered t cs []
  orderable_true cs a e = some_ordered cs (greedy t (length cs) cs []) (greedy_right laws (length cs) cs [] a refl) e

  pub orderable_false : (cs : List ℕ) → Apart cs → orderable t cs ≡ false → Ordered t cs [] → ⊥
  orderable_false cs a e = none_ordered cs (greedy t (length cs) cs []) (greedy_right laws (length cs) cs [] a refl) e

  pub shrink_right : (xs cs : List ℕ) → Apart cs → (Ordered t cs [] → ⊥) → Needed t xs cs → (Ordered t (shrink (orderable t) xs cs) [] → ⊥) × Needed t [] (shrink (orderable t) xs cs)
  shrink_right [] cs a n h = (n, h)
  shrink_right (x ∷ xs) cs a n h = go (orderable t (without x cs)) refl (shrink_right xs cs a n) (shrink_right xs (without x cs) apart)
    where
      apart : Apart (without x cs)
      apart = apart_kept (λ k. not (eqb k x)) cs a

      kept : Ordered t (without x cs) [] → Needed t xs cs
      kept o y r p = later (h y r p)
        where
          later : ((s : List ℕ) × Pick y (x ∷ xs) s) ⊎ Ordered t r [] → ((s : List ℕ) × Pick y xs s) ⊎ Ordered t r []
          later (inl q) = which q.1
            where
              which : {s : List ℕ} → Pick y (x ∷ xs) s → ((s : List ℕ) × Pick y xs s) ⊎ Ordered t r []
              which (here e) = inr (subst (λ l. Ordered t l []) (ap (λ k. without k cs) (sym e) ∙ pick_is p a) o)
              which (there {r = s} k) = inl (s, k)
          later (inr o') = inr o'

      dropped : Needed t xs (without x cs)
      dropped y r p = later (h y k.0 k.1)
        where
          k : (s : List ℕ) × Pick y cs s × Part s r × (not (eqb y x) ≡ true)
          k = pick_kept (λ j. not (eqb j x)) cs y r p

          which : {s : List ℕ} → Pick y (x ∷ xs) s → ((s : List ℕ) × Pick y xs s) ⊎ Ordered t r []
          which (here e) = absurd (eqb-false y x (not-true (eqb y x) k.3) e)
          which (there {r = s} q) = inl (s, q)

          later : ((s : List ℕ) × Pick y (x ∷ xs) s) ⊎ Ordered t k.0 [] → ((s : List ℕ) × Pick y xs s) ⊎ Ordered t r []
          later (inl q) = which q.1
          later (inr o) = inr (ordered_part laws k.2 o)

      go : (b : Bool) → orderable t (without x cs) ≡ b
          → (Needed t xs cs → (Ordered t (shrink (orderable t) xs cs) [] → ⊥) × Needed t [] (shrink (orderable t) xs cs))
          → ((Ordered t (without x cs) [] → ⊥) → Needed t xs (without x cs) → (Ordered t (shrink (orderable t) xs (without x cs)) [] → ⊥) × Needed t [] (shrink (orderable t) xs (without x cs)))
          → (Ordered t (cond b (shrink (orderable t) xs cs) (shrink (orderable t) xs (without x cs))) [] → ⊥) × Needed t [] (cond b (shrink (orderable t) xs cs) (shrink (orderable t) xs (without x cs)))
      go true e ih₁ ih₂ = ih₁ (kept (orderable_true (without x cs) apart e))
      go false e ih₁ ih₂ = ih₂ (orderable_false (without x cs) apart e) dropped

  pub shrink_part : (xs cs : List ℕ) → Part cs (shrink (orderable t) xs cs)
  shrink_part [] cs = whole
  shrink_part (x ∷ xs) cs = elim (orderable t (without x cs)) as (λ b. Part cs (cond b (shrink (orderable t) xs cs) (shrink (orderable t) xs (without x cs)))) [ true ↦ shrink_part xs cs | false ↦ part_trans (part_kept (λ k. not (eqb k x)) cs) (shrink_part xs (without x cs)) ]

  pub conflict_right : (xs : List ℕ) → Apart xs → (Ordered t xs [] → ⊥) → (Ordered t (conflict t xs) [] → ⊥) × ((y : ℕ) (r : List ℕ) → Pick y (conflict t xs) r → Ordered t r [])
  conflict_right xs a n =
      let h = shrink_right xs xs a n (λ y r p. inl (r, p)) in
      (h.0, λ y r p. elim (h.1 y r p) [ inl q ↦ none q.1 | inr o ↦ o ])
    where
      none : {A : Type 0} {y : ℕ} {s : List ℕ} → Pick y [] s → A
      none p = elim p [ ]
