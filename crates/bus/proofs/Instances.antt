-- One instance of a busy period after the other. Assumes nothing.
use Rattle.std.proofs.Common.{◌≡◌, ℕ, ◌+◌, ◌-◌, ◌*◌, ◌<◌, ◌≤◌, max, ltb, List, Some, None, sym, ap, ◌∙◌, subst, ⊎_elim, add-mul, add-one, arith}
use Rattle.std.specs.List.{AllByRecursion}
use Rattle.std.proofs.lemmas.Nat.{mul-le}
use Rattle.std.proofs.lemmas.Bool.{cases_lt, cond-true, cond-false, lt-ltb, le-ltb}
use Rattle.shelf.specs.Folds.{most}
use Rattle.shelf.specs.Largest.{largest}
use Rattle.shelf.specs.Times.{or_zero}
use Rattle.shelf.proofs.Solutions.{solution_below}
use Rattle.streams.specs.declared.stream.Stream.{Stream}
use Rattle.streams.specs.Demands.{ceil, horizon, Fit}
use Rattle.streams.proofs.Demanding.{ceil_le, demand_mono}
use Rattle.bus.specs.Answers.{Waits}
use Rattle.bus.specs.Buses.{blocking, busy_period, queue_load, delay, instance_time, over_instances, of_instance, response_by, instance_by}
use Rattle.bus.specs.Bussing.{delay_smallest}

-- q instances are seen: the worst of them, and a time before which instance q does not start
pub record Instances (a : ℕ) (s : Stream) (us : List Stream) (b : ℕ) (q worst known : ℕ) : Type 0 where
  pub worst_is : worst ≡ largest (instance_time a s us b) q
  pub rises : known ≤ queue_load a s us b q known
  pub below : (v : ℕ) → v ≡ queue_load a s us b q v → known ≤ v

module _ (a : ℕ) (s : Stream) (us : List Stream) (b : ℕ) where
  module _ (fit : AllByRecursion Fit us) (q w : ℕ) (waits : delay a s us b q ≡ Some w) where
    waited : Waits a s us b q w
    waited = delay_smallest a s us b q w waits

    parts : (q + 1) * s.cost ≡ q * s.cost + s.cost
    parts = add-mul q 1 s.cost ∙ omega arith

    -- the next instance does not start before this one is done
    next_rises : w + s.cost ≤ queue_load a s us b (q + 1) (w + s.cost)
    next_rises = omega (arith, parts, waited.2, demand_mono us fit (w + a) (w + s.cost + a) (omega arith))

    next_below : (v : ℕ) → v ≡ queue_load a s us b (q + 1) v → w + s.cost ≤ v
    unfolding delay
    next_below v e =
        let earlier : queue_load a s us b q (v - s.cost) ≤ v - s.cost = omega (arith, parts, e, demand_mono us fit (v - s.cost + a) (v + a) (omega arith)) in
        ⊎_elim {C = w + s.cost ≤ v} (λ far. omega (arith, waited.1, parts, e))
        (λ near.
        let found = solution_below (queue_load a s us b q) 0 horizon (v - s.cost) (omega arith) (λ x y h. omega (arith, demand_mono us fit (x + a) (y + a) (omega arith))) (omega arith) (omega arith) near earlier in
        let same : found.0 ≡ w = let x = found.1 in let y = waits in cc in
        omega (arith, same, found.2, parts, e)) (cases_lt horizon (v - s.cost))

    pub instances_more : (worst known m k : ℕ) → Instances a s us b q worst known → k ≡ w + s.cost → m ≡ max worst (k - q * s.period) → Instances a s us b (q + 1) m k
    unfolding instance_time
    instances_more worst known m k inv e f =
        let time : k - q * s.period ≡ instance_time a s us b q = ap (λ n. n - q * s.period) (e ∙ ap (λ o. or_zero o + s.cost) (sym waits)) in
        let step : m ≡ max (instance_time a s us b q) (largest (instance_time a s us b) q) = omega (arith, f, time, inv.worst_is) in
        record {
          worst_is = step ∙ ap (largest (instance_time a s us b)) (sym (add-one q));
          rises = subst (λ (n : ℕ). n ≤ queue_load a s us b (q + 1) n) (sym e) next_rises;
          below = λ v x. omega (arith, e, next_below v x);
        }

pub blocking_is : (below : List Stream) (b : ℕ) → b ≡ most (λ x. x.cost) below → b ≡ blocking below
unfolding blocking
blocking_is below b e = e

-- a busy period has few instances
pub few_instances : (s : Stream) → Fit s → (l q : ℕ) → l ≤ horizon → q < ceil l s.period → (q ≤ 4000) × (q * s.cost ≤ 80000000000)
few_instances s own l q h m =
    let n : q ≤ 4000 = omega (arith, ceil_le s.period l 4000 (omega (arith, own.paced)) (omega (arith, own.paced))) in
    (n, mul-le q s.cost 4000 20000000 n own.priced.1)

-- the answer, by the busy period
module _ (a : ℕ) (s : Stream) (us : List Stream) (b : ℕ) where
  pub no_end : None ≡ busy_period s us b → None ≡ response_by a s us b
  unfolding response_by
  no_end e = ap (λ o. over_instances o s.period (instance_time a s us b)) e

  pub worst_found : (l n worst : ℕ) → Some l ≡ busy_period s us b → n ≡ ceil l s.period → worst ≡ largest (instance_time a s us b) n → Some worst ≡ response_by a s us b
  unfolding response_by
  worst_found l n worst e k w =
      ap Some (w ∙ ap (largest (instance_time a s us b)) k) ∙ ap (λ o. over_instances o s.period (instance_time a s us b)) e

  pub instance_none : None ≡ busy_period s us b → (q : ℕ) → None ≡ instance_by a s us b q
  unfolding instance_by
  instance_none e q = ap (λ o. of_instance o s.period (instance_time a s us b) q) e

  pub instance_past : (l q : ℕ) → Some l ≡ busy_period s us b → ceil l s.period ≤ q → None ≡ instance_by a s us b q
  unfolding instance_by
  instance_past l q e h =
      sym (cond-false (ltb q (ceil l s.period)) _ _ (le-ltb q (ceil l s.period) h)) ∙ ap (λ o. of_instance o s.period (instance_time a s us b) q) e

  pub instance_found : (l q w : ℕ) → Some l ≡ busy_period s us b → q < ceil l s.period → delay a s us b q ≡ Some w → Some ((w + s.cost) - q * s.period) ≡ instance_by a s us b q
  unfolding instance_by instance_time
  instance_found l q w e h d =
      ap (λ o. Some ((or_zero o + s.cost) - q * s.period)) (sym d)
      ∙ sym (cond-true (ltb q (ceil l s.period)) _ _ (lt-ltb q (ceil l s.period) h)) ∙ ap (λ o. of_instance o s.period (instance_time a s us b) q) e
