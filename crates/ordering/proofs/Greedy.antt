-- The greedy choice finds an order where there is one. Assumes nothing.
use Rattle.std.proofs.Common.{◌≡◌, ℕ, zero, suc, ◌+◌, ◌*◌, ◌/◌, ◌<◌, ◌≤◌, Bool, true, false, not, eqb, List, [], ◌∷◌, length, Some, None, Option, sym, refl, ap, ◌∙◌, subst, suc-mul, mul-suc, mul-add, arith}
use mathlib.Core.List.{reverse_aux}
use Rattle.std.proofs.lemmas.Bool.{both_ways}
use Rattle.shelf.specs.Picks.{Pick, Perm}
use Rattle.shelf.specs.Picks.Pick.{here, there}
use Rattle.shelf.specs.Picks.Perm.{done, next}
use Rattle.timing.specs.Laws.{Laws}
use Rattle.shelf.specs.Numbers.{without}
use Rattle.shelf.specs.Apart.{Apart}
use Rattle.std.proofs.lemmas.Option.{none-some}
use Rattle.shelf.proofs.Numbering.{pick_is, apart_kept}
use Rattle.shelf.proofs.Perms.{pick_length}
use Rattle.ordering.specs.Orders.{found, examined, at_place, greedy, examinations}
use Rattle.ordering.proofs.Audsley.{Fits, Ordered, placed}

pub found_some : (p : ℕ → Bool) (xs : List ℕ) (x : ℕ) → found p xs ≡ Some x → (r : List ℕ) × Pick x xs r × (p x ≡ true)
found_some p [] x e = absurd (none-some x e)
found_some p (y ∷ ys) x e = go (p y) refl (found_some p ys x)
  where
    go : (b : Bool) → p y ≡ b → (found p ys ≡ Some x → (r : List ℕ) × Pick x ys r × (p x ≡ true)) → (r : List ℕ) × Pick x (y ∷ ys) r × (p x ≡ true)
    go true h ih = let k : x ≡ y = grind arith in (ys, here k, ap p k ∙ h)
    go false h ih = let i = ih (grind arith) in (y ∷ i.0, there i.1, i.2)

pub found_none : (p : ℕ → Bool) {x : ℕ} {xs r : List ℕ} → Pick x xs r → found p xs ≡ None → p x ≡ false
found_none p {x} (here {y = y} {r = r} e) h = grind arith
found_none p {x} (there {y = y} {xs = xs} q) h = grind (arith, found_none p q)

-- what the greedy choice owes: an order over ls, or that there is none
abbrev pub Right : (ℕ → List ℕ → List ℕ → Bool) → List ℕ → List ℕ → Option (List ℕ) → Type 0
Right t us ls None = Ordered t us ls → ⊥
Right t us ls (Some o) = (zs : List ℕ) × Perm us zs × Fits t zs ls × (o ≡ reverse_aux zs ls)

module _ {t : ℕ → List ℕ → List ℕ → Bool} (laws : Laws t) where
  stuck : {us zs : List ℕ} → Perm us zs → (ls : List ℕ) → Fits t zs ls → Apart us → 0 < length us → found (at_place t us ls) us ≡ None → ⊥
  stuck done ls f a n e = omega arith
  stuck (next {x = z} {xs = us} {r = r} {ys = zs} p q) ls f a n e =
      both_ways (t z (without z us) ls) (found_none (at_place t us ls) p e) (ap (λ l. t z l ls) (pick_is p a) ∙ laws.above z r zs ls q ∙ f.0)

  lifted : {x : ℕ} {us us' ls : List ℕ} → Pick x us us' → t x us' ls ≡ true → (o : Option (List ℕ)) → Right t us' (x ∷ ls) o → Right t us ls o
  lifted p h None r = λ o. r (placed laws p o)
  lifted {x} {us' = us'} {ls = ls} p h (Some o) r = (x ∷ r.0, next p r.1, (sym (laws.above x us' r.0 ls r.1) ∙ h, r.2), r.3)

  pub greedy_right : (m : ℕ) (us ls : List ℕ) → Apart us → length us ≡ m → Right t us ls (greedy t m us ls)
  greedy_right zero [] ls a n = ([], done, tt, refl)
  greedy_right zero (x ∷ us) ls a n = absurd (omega arith)
  greedy_right (suc m) us ls a n = step (found (at_place t us ls) us) refl (λ x. greedy_right m (without x us) (x ∷ ls))
    where
      step : (o : Option ℕ) → found (at_place t us ls) us ≡ o → ((x : ℕ) → Apart (without x us) → length (without x us) ≡ m → Right t (without x us) (x ∷ ls) (greedy t m (without x us) (x ∷ ls)))
          → Right t us ls (elim o [ None ↦ None | Some x ↦ greedy t m (without x us) (x ∷ ls) ])
      step None e ih = λ o. stuck o.1 ls o.2 a (omega arith) e
      step (Some x) e ih =
          let h = found_some (at_place t us ls) us x e in
          let p = subst (λ l. Pick x us l) (sym (pick_is h.1 a)) h.1 in
          lifted p h.2 (greedy t m (without x us) (x ∷ ls)) (ih x (apart_kept (λ k. not (eqb k x)) us a) (omega (arith, pick_length p)))

-- the number of examinations
pub examined_most : (p : ℕ → Bool) (xs : List ℕ) → examined p xs ≤ length xs
examined_most p [] = omega arith
examined_most p (x ∷ xs) = grind (arith, examined_most p xs)

pub triangle : ℕ → ℕ
triangle zero = 0
triangle (suc m) = suc m + triangle m

pub triangle_is : (m : ℕ) → 2 * triangle m ≡ m * (m + 1)
unfolding triangle
triangle_is zero = refl
triangle_is (suc m) = let h = triangle_is m in omega (arith, suc-mul m (suc m + 1), mul-add m m 1, mul-add m (suc m) 1, mul-suc m m)

pub examinations_triangle : (t : ℕ → List ℕ → List ℕ → Bool) (m : ℕ) (us ls : List ℕ) → Apart us → length us ≡ m → examinations t m us ls ≤ triangle m
unfolding triangle
examinations_triangle t zero us ls a n = omega arith
examinations_triangle t (suc m) us ls a n = step (found (at_place t us ls) us) refl (λ x. examinations_triangle t m (without x us) (x ∷ ls))
  where
    step : (o : Option ℕ) → found (at_place t us ls) us ≡ o → ((x : ℕ) → Apart (without x us) → length (without x us) ≡ m → examinations t m (without x us) (x ∷ ls) ≤ triangle m)
        → examined (at_place t us ls) us + elim o [ None ↦ 0 | Some x ↦ examinations t m (without x us) (x ∷ ls) ] ≤ suc m + triangle m
    step None e ih = omega (arith, examined_most (at_place t us ls) us)
    step (Some x) e ih =
        let h = found_some (at_place t us ls) us x e in
        let p = subst (λ l. Pick x us l) (sym (pick_is h.1 a)) h.1 in
        omega (arith, examined_most (at_place t us ls) us, ih x (apart_kept (λ k. not (eqb k x)) us a) (omega (arith, pick_length p)))

pub examinations_most : (t : ℕ → List ℕ → List ℕ → Bool) (m : ℕ) (us : List ℕ) → Apart us → length us ≡ m → examinations t m us [] ≤ m * (m + 1) / 2
examinations_most t m us a n = omega (arith, examinations_triangle t m us [] a n, triangle_is m)
