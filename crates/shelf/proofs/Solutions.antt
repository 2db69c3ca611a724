-- The smallest number with a property, and the smallest solution of w = rule w: that it is the smallest, that there is
-- but one, that a lower rule has a lower one, and that it lies below each point that the rule does not raise.
-- Assumes nothing.
use Rattle.std.proofs.Common.{◌≡◌, ℕ, zero, suc, ◌+◌, ◌-◌, ◌<◌, ◌≤◌, Bool, true, false, cond, eqb, Some, None, Decides, Option, sym, refl, ⊎_elim, le_trans, le_refl, arith}
use Rattle.std.proofs.lemmas.Bool.{cases_lt}
use Rattle.std.proofs.lemmas.Bool.Decides.{Decides-eqb, not_from_Decides}
use Rattle.shelf.specs.Smallest.{Smallest, first_of, smallest, solution}
use Rattle.shelf.specs.Times.{NoLater, AtMost}

-- there is but one
pub smallest_unique : (P : ℕ → Type 0) (low high : ℕ) (o u : Option ℕ) → Smallest P low high o → Smallest P low high u → o ≡ u
smallest_unique P low high o u h k = grind arith

-- the definition by a test is the smallest
module _ (P : ℕ → Type 0) (t : ℕ → Bool) (decides : (w : ℕ) → Decides (t w) (P w)) where
  later : (low high : ℕ) (o : Option ℕ) → (P low → ⊥) → Smallest P (suc low) high o → Smallest P low high o
  later low high (Some w) no-low h = (omega arith, h.1, h.2, λ v a b p. grind (arith, h.3 v))
  later low high None no-low h = λ v a b p. grind (arith, h v)

  here : (low high : ℕ) (b : Bool) → t low ≡ b → (o : Option ℕ) → low ≤ high → Smallest P (suc low) high o → Smallest P low high (cond b (Some low) o)
  here low high true e o l h = (le_refl low, l, (decides low).0 e, λ v a b p. absurd (omega arith))
  here low high false e o l h = later low high o (not_from_Decides (t low) (decides low) e) h

  first_is : (n low high : ℕ) → low + n ≡ suc high → Smallest P low high (first_of t low n)
  unfolding first_of
  first_is zero low high e = λ v a b p. absurd (omega arith)
  first_is (suc n) low high e =
      here low high (t low) refl (first_of t (suc low) n) (omega arith) (first_is n (suc low) high (omega arith))

  pub smallest_is : (low high : ℕ) → low ≤ high → Smallest P low high (smallest t low high)
  unfolding smallest
  smallest_is low high h = first_is (suc high - low) low high (omega arith)

pub solution_is : (rule : ℕ → ℕ) (low high : ℕ) → low ≤ high → Smallest (λ w. w ≡ rule w) low high (solution rule low high)
unfolding solution
solution_is rule low high h = smallest_is (λ w. w ≡ rule w) (λ w. eqb w (rule w)) (λ w. Decides-eqb w (rule w)) low high h

-- what the code finds is it
pub is_solution : (rule : ℕ → ℕ) (low high : ℕ) → low ≤ high → (o : Option ℕ) → Smallest (λ w. w ≡ rule w) low high o → o ≡ solution rule low high
is_solution rule low high h o s =
    smallest_unique (λ w. w ≡ rule w) low high o (solution rule low high) s (solution_is rule low high h)

-- a rule that rises and does not raise w has a solution up to w
falls_to : (rule : ℕ → ℕ) (low : ℕ) → ((v w : ℕ) → v ≤ w → rule v ≤ rule w) → low ≤ rule low → (n w : ℕ) → w ≤ n → low ≤ w → rule w ≤ w → (v : ℕ) × (low ≤ v) × (v ≤ w) × (v ≡ rule v)
falls_to rule low up start zero w a b c = (w, b, le_refl w, omega arith)
falls_to rule low up start (suc n) w a b c =
    ⊎_elim (λ (l : rule w < w). let r = falls_to rule low up start n (rule w) (omega arith) (le_trans start (up low w b)) (up (rule w) w c) in (r.0, r.1, le_trans r.2 c, r.3))
    (λ (l : w ≤ rule w). (w, b, le_refl w, omega arith)) (cases_lt (rule w) w)

-- the smallest is no later than any solution
below_any : (rule : ℕ → ℕ) (low high v : ℕ) (o : Option ℕ) → low ≤ v → v ≤ high → v ≡ rule v → Smallest (λ w. w ≡ rule w) low high o → (w : ℕ) → v ≤ w → NoLater (Some w) o
below_any rule low high v (Some u) a b p s w h = grind (arith, s.3 v a)
below_any rule low high v None a b p s w h = s v a b p

by_solutions : (rule lower : ℕ → ℕ) (low high : ℕ) → ((v w : ℕ) → v ≤ w → lower v ≤ lower w) → low ≤ lower low → ((w : ℕ) → low ≤ w → lower w ≤ rule w) → (o u : Option ℕ) → Smallest (λ w. w ≡ rule w) low high o → Smallest (λ w. w ≡ lower w) low high u → NoLater o u
by_solutions rule lower low high up start le None u s t = tt
by_solutions rule lower low high up start le (Some w) u s t =
    let below : lower w ≤ w = le_trans (le w s.0) (omega (arith, s.2)) in
    let v = falls_to lower low up start w w (le_refl w) s.0 below in
    below_any lower low high v.0 u v.1 (le_trans v.2 s.1) v.3 t w v.2

-- a lower rule has a solution that is no later
pub solution_no_later : (rule lower : ℕ → ℕ) (low high : ℕ) → low ≤ high → ((v w : ℕ) → v ≤ w → lower v ≤ lower w) → low ≤ lower low → ((w : ℕ) → low ≤ w → lower w ≤ rule w) → NoLater (solution rule low high) (solution lower low high)
solution_no_later rule lower low high h up start le =
    by_solutions rule lower low high up start le (solution rule low high) (solution lower low high) (solution_is rule low high h) (solution_is lower low high h)

pub solution_at_most : (rule : ℕ → ℕ) (low high : ℕ) → low ≤ high → AtMost high (solution rule low high)
solution_at_most rule low high h =
    let s = solution_is rule low high h in grind arith

-- below a point that the rule does not raise there is one
pub solution_below : (rule : ℕ → ℕ) (low high w : ℕ) → low ≤ high → ((v w : ℕ) → v ≤ w → rule v ≤ rule w) → low ≤ rule low → low ≤ w → w ≤ high → rule w ≤ w → (v : ℕ) × (solution rule low high ≡ Some v) × (v ≤ w)
solution_below rule low high w h up start a b c =
    let v = falls_to rule low up start w w (le_refl w) a c in
    let s = below_any rule low high v.0 (solution rule low high) v.1 (le_trans v.2 b) v.3 (solution_is rule low high h) w v.2 in
    grind arith

-- worked by hand: so many turns of the rule from low
abbrev pub climb : (ℕ → ℕ) → ℕ → ℕ → ℕ
climb rule zero w = w
climb rule (suc n) w = climb rule n (rule w)

climbs : (rule : ℕ → ℕ) (low : ℕ) → ((v w : ℕ) → v ≤ w → rule v ≤ rule w) → (n x : ℕ) → low ≤ x → x ≤ rule x → ((v : ℕ) → low ≤ v → v ≡ rule v → x ≤ v) → (low ≤ climb rule n x) × ((v : ℕ) → low ≤ v → v ≡ rule v → climb rule n x ≤ v)
climbs rule low up zero x a b c = (a, c)
climbs rule low up (suc n) x a b c =
    climbs rule low up n (rule x) (le_trans a b) (up x (rule x) b) (λ v h p. omega (arith, up x v (c v h p), p))

pub solution_after : (rule : ℕ → ℕ) (low high n w : ℕ) → low ≤ high → ((v w : ℕ) → v ≤ w → rule v ≤ rule w) → low ≤ rule low → climb rule n low ≡ w → w ≡ rule w → w ≤ high → solution rule low high ≡ Some w
solution_after rule low high n w h up start e p k =
    let c = climbs rule low up n low (le_refl low) start (λ v a b. a) in
    sym (is_solution rule low high h (Some w) (omega (arith, c.0, e), k, p, λ v a b q. omega (arith, c.1 v a q, e)))
