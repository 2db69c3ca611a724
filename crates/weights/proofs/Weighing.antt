-- Bounds of costs and weights, and that a weight grows with the frame. Assumes nothing.
use Rattle.std.proofs.Common.{◌≡◌, ℕ, ◌*◌, ◌≤◌, true, false, List, Option, sym, ap, ◌∙◌, subst, arith}
use Rattle.std.proofs.lemmas.Bool.{cond-true, cond-false, cond_both}
use Rattle.frames.specs.declared.row.Row.{Row}
use Rattle.frames.specs.Limits.{Lawful}
use Rattle.timing.specs.Carried.{in_set, carried}
use Rattle.frames.specs.Payloads.{payload}
use Rattle.frames.proofs.Fitting.{payload_le, payload_mono}
use Rattle.streams.specs.declared.stream.Stream.{Stream}
use Rattle.streams.specs.Demands.{weight}
use Rattle.streams.proofs.Demanding.{weight_grows, weight_le, ceil_le}
use Rattle.domains.specs.Duties.{Duties}
use Rattle.weights.specs.Weights.{weight_in, row_weight}

module _ {D : Type 0} (count : D → ℕ) (cost : D → ℕ → ℕ → ℕ) (response : D → ℕ → Row → List Row → List Row → Option ℕ) (duties : Duties count cost response) (d : D) where
  -- in the bank and outside it
  pub cost_le : (k p : ℕ) → p ≤ 64 → cost d k p ≤ 20000000
  cost_le k p h = grind (arith, duties.costs d k p, duties.free d k p)

  pub cost_grows : (k p q : ℕ) → p ≤ q → q ≤ 64 → cost d k p ≤ cost d k q
  cost_grows k p q h l = grind (arith, duties.grows d k p q, duties.free d k p, duties.free d k q)

  pub weight_in_le : (k : ℕ) (r : Row) → Lawful r → weight_in (cost d) k r ≤ 20000000
  unfolding weight_in
  weight_in_le k r h =
      cond_both (carried k r) (weight (record { cost = cost d k (payload r.fill); period = r.period })) 0 (λ n. n ≤ 20000000)
      (λ _. weight_le (record { cost = cost d k (payload r.fill); period = r.period }) (cost_le k (payload r.fill) (payload_le r.fill)) h.paced.0)
      (λ _. omega arith)

module _ (cost : ℕ → ℕ → ℕ) (k : ℕ) (r f : Row) (e : r ≡ f) where
  pub not_weighed : in_set k r.set ≡ false → 0 ≡ weight_in cost k f
  unfolding weight_in
  not_weighed h = sym (cond-false _ _ _ h) ∙ ap (weight_in cost k) e

  pub weighed : (c : ℕ) → in_set k r.set ≡ true → c ≡ cost k (payload f.fill) → weight (record { cost = c; period = r.period }) ≡ weight_in cost k f
  unfolding weight_in
  weighed c h is =
      ap (λ n. weight (record { cost = n; period = r.period })) (is ∙ ap (λ x. cost k (payload x.fill)) (sym e)) ∙ sym (cond-true _ _ _ h) ∙ ap (weight_in cost k) e

-- what costs nothing weighs nothing
pub weightless : (s : Stream) → s.cost ≡ 0 → 1 ≤ s.period → weight s ≡ 0
unfolding weight
weightless s free long = omega (arith, ceil_le s.period (s.cost * 1000000) 0 long (omega arith))

-- a frame that has no less in it, no later, and in no fewer domains
pub record Fuller (r q : Row) : Type 0 where
  pub filled : r.fill ≤ q.fill
  pub paced : q.period ≤ r.period
  pub lasts : 1 ≤ q.period
  pub reaches : (k : ℕ) → carried k r ≡ true → carried k q ≡ true

module _ (cost : ℕ → ℕ → ℕ) (up : (k p q : ℕ) → p ≤ q → q ≤ 64 → cost k p ≤ cost k q) (r q : Row) (h : Fuller r q) where
  in_each : (k : ℕ) → weight_in cost k r ≤ weight_in cost k q
  unfolding weight_in
  in_each k =
      cond_both (carried k r) (weight (record { cost = cost k (payload r.fill); period = r.period })) 0 (λ n. n ≤ weight_in cost k q)
      (λ t. subst (λ (n : ℕ). weight (record { cost = cost k (payload r.fill); period = r.period }) ≤ n) (sym (cond-true _ _ _ (h.reaches k t)))
      (weight_grows (record { cost = cost k (payload r.fill); period = r.period }) (record { cost = cost k (payload q.fill); period = q.period }) (up k _ _ (payload_mono r.fill q.fill h.filled) (payload_le q.fill)) h.paced h.lasts))
      (λ _. omega arith)

  pub fuller_heavier : row_weight cost r ≤ row_weight cost q
  unfolding row_weight
  fuller_heavier = omega (arith, in_each 0, in_each 1, in_each 2, in_each 3)
