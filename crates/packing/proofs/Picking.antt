-- The first of the lightest offers, as the iterator over them picks it. Assumes nothing.
use Rattle.std.proofs.Common.{◌≡◌, ℕ, zero, suc, ◌+◌, ◌-◌, Bool, true, false, List, [], ◌∷◌, ◌++◌, Some, None, Option, Ordering, fold, sym, refl, ap, ◌∙◌, subst, ap₂, map-id, append-nil, add-one, arith, zero-add}
use Rattle.std.proofs.lemmas.Bool.Decides.{nat_tests}
use Rattle.std.specs.Iterator.{PicksMinByKey, KeyTurn}
use Rattle.std.specs.Fn.{CalledAt}
use Rattle.std.specs.List.{FoldsTo, range_with_len, filter_map, cons_option, reduce}
use Rattle.std.specs.Ordering.{nat_cmp, min_by_ordering}
use Rattle.std.specs.declared.ops.RangeInclusive.{RangeInclusive}
use Rattle.std.specs.Range.{range_inclusive_start, range_inclusive_end, range_inclusive_exhausted, range_inclusive_len, range_inclusive_left}
use Rattle.std.proofs.iter.runs.Sources.{nat_range_inclusive_steps}
use Rattle.std.proofs.lemmas.Iterator.{YieldsList}
use Rattle.std.proofs.lemmas.Iterator.Consumers.{YieldsList-from_shown, reduce_from_yields_List}
use Rattle.std.proofs.lemmas.List.Elements.{filter_map-append}
use Rattle.std.proofs.lemmas.List.FromFn.{length-range_with_len, map-range_with_len_more}
use Rattle.std.proofs.lemmas.List.Sums.{fold_push}
use denote.Param.Members.{Mut}
use denote.Ref.{Bor}
use Rattle.packing.specs.declared.choice.Choice.{Choice}
use Rattle.packing.specs.Choices.{at_frame, lighter, lightest_below}

-- what a range that includes its end has left
abbrev left : RangeInclusive ℕ → ℕ
left s = range_inclusive_left (λ a b. b - a) s

abbrev numbers : RangeInclusive ℕ → List ℕ
numbers s = range_with_len (range_inclusive_start s) (left s)

next_numbers : (s t : RangeInclusive ℕ) (x : ℕ) (e : Bool) → range_inclusive_exhausted t ≡ e → x ≡ range_inclusive_start s → left t + 1 ≡ left s → (range_inclusive_exhausted t ≡ false → range_inclusive_start t ≡ range_inclusive_start s + 1) → numbers s ≡ x ∷ numbers t
next_numbers s t x false e is less next =
    let m : left s ≡ suc (left t) = omega arith in
    ap (range_with_len (range_inclusive_start s)) m ∙ ap (λ k. k ∷ range_with_len (range_inclusive_start s + 1) (left t)) (sym is) ∙ ap (λ k. x ∷ range_with_len k (left t)) (sym (next e))
next_numbers s t x true e is less next =
    let none : left t ≡ 0 = ap (range_inclusive_len (λ a b. b - a) (range_inclusive_start t) (range_inclusive_end t)) e in
    let m : left s ≡ 1 = omega arith in
    ap (range_with_len (range_inclusive_start s)) m ∙ ap (λ k. k ∷ []) (sym is) ∙ ap (λ k. x ∷ range_with_len (range_inclusive_start t) k) (sym none)

pub numbers_to : (s : RangeInclusive ℕ) (n : ℕ) → range_inclusive_start s ≡ 0 → range_inclusive_end s ≡ n → range_inclusive_exhausted s ≡ false → YieldsList nat_range_inclusive_steps (λ k. k) s (range_with_len 0 (suc n))
numbers_to s n a b c =
    let all : left s ≡ suc n = omega (arith, ap (range_inclusive_len (λ a b. b - a) (range_inclusive_start s) (range_inclusive_end s)) c) in
    subst (YieldsList nat_range_inclusive_steps (λ k. k) s) (ap (λ k. range_with_len k (left s)) a ∙ ap (range_with_len 0) all)
    (YieldsList-from_shown nat_range_inclusive_steps (λ k. k) numbers
    (λ u t h. length-range_with_len (range_inclusive_start u) (left u) ∙ h.1.0)
    (λ u x t h. next_numbers u t x _ refl h.1.0 h.1.1 h.1.2) s)

-- of two, the one that grows less; the first of equals
abbrev pub less_grown : Choice → Choice → Choice
less_grown b c = min_by_ordering (nat_cmp b.growth c.growth) b c

lighter_of : (b c : Choice) (o : Ordering) → nat_cmp b.growth c.growth ≡ o → lighter (Some b) (Some c) ≡ Some (min_by_ordering o b c)
lighter_of b c o e = grind (arith, nat_tests)

-- one more at the end of the list
lighter_last : (os : List Choice) (o : Option Choice) → lighter (reduce less_grown os) o ≡ reduce less_grown (os ++ cons_option o [])
lighter_last os None = ap (reduce less_grown) (sym (append-nil os))
lighter_last [] (Some c) = refl
lighter_last (b ∷ os) (Some c) = lighter_of (fold less_grown b os) c _ refl ∙ ap Some (sym (fold_push less_grown b os c))

one_more : (n : ℕ) → range_with_len 0 (suc n) ≡ range_with_len 0 n ++ (n ∷ [])
one_more n = rw add-one at (simp map-id at (map-range_with_len_more (λ k. k) 0 n n (zero-add n)))

module _ (growth : ℕ → Option ℕ) where
  abbrev offers : ℕ → List Choice
  offers n = filter_map (λ k. at_frame k (growth k)) (range_with_len 0 n)

  pub lightest_is : (n : ℕ) → reduce less_grown (offers n) ≡ lightest_below growth n
  lightest_is zero = refl
  lightest_is (suc n) =
      ap (λ ks. reduce less_grown (filter_map (λ k. at_frame k (growth k)) ks)) (one_more n)
      ∙ ap (reduce less_grown) (filter_map-append (λ k. at_frame k (growth k)) (range_with_len 0 n) (n ∷ []))
      ∙ sym (lighter_last (offers n) (at_frame n (growth n))) ∙ ap (λ o. lighter o (at_frame n (growth n))) (lightest_is n)

growth_of : (o : Ordering) (b c : Choice) → min_by_ordering o b.growth c.growth ≡ (min_by_ordering o b c).growth
growth_of o b c = grind arith

-- each call gives an offer's growth, so what is picked by key is the first of those that grow least
module _ {F : Type 0} (g : Mut F (Bor Choice × Unit {0}) ℕ) (f : F) (calls : (x : Choice) (k : ℕ) (q : F) → CalledAt g f x k q → (q ≡ f) × (k ≡ x.growth)) where
  turns : (xs : List Choice) (p q : (F × ℕ) × Choice) → p.0.0 ≡ f → p.0.1 ≡ p.1.growth → FoldsTo (KeyTurn min_by_ordering min_by_ordering g nat_cmp) p xs q → FoldsTo (λ b c d. d ≡ less_grown b c) p.1 xs q.1
  turns [] p q e k h = ap (λ (v : (F × ℕ) × Choice). v.1) h
  turns (x ∷ xs) p q e k h =
      let said = calls x h.1.0 h.0.0.0 (subst (λ v. CalledAt g v x h.1.0 h.0.0.0) e h.1.2) in
      let same : nat_cmp p.1.growth x.growth ≡ h.1.1 = ap₂ nat_cmp (sym k) (sym said.1) ∙ h.1.3 in
      let key : h.0.0.1 ≡ h.0.1.growth = h.1.4 ∙ ap₂ (min_by_ordering h.1.1) k said.1 ∙ growth_of h.1.1 p.1 x ∙ ap (λ c. c.growth) (sym h.1.5) in
      (h.0.1, h.1.5 ∙ ap (λ o. min_by_ordering o p.1 x) (sym same), turns xs h.0 q said.0 key h.2)

  pub picked : {S : Type 0} (steps : S → Option Choice → S → Type 0) (s : S) (r : Option Choice) (all : List Choice) → PicksMinByKey steps g nat_cmp s f r → YieldsList steps (λ c. c) s all → r ≡ reduce less_grown all
  picked steps s None all h road = reduce_from_yields_List less_grown s None h road
  picked steps s (Some y) all h road = reduce_from_yields_List less_grown s (Some y) (h.0, h.1, h.5, let said = calls h.0 h.2 h.3 h.6 in turns h.1 ((h.3, h.2), h.0) (h.4, y) said.0 said.1 h.7) road
