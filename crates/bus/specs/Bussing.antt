-- The busy period of a CAN FD bus and its instances. Assumes nothing.
use Rattle.std.specs.Prelude.{◌≡◌, ℕ, ◌+◌, ◌-◌, ◌*◌, ◌<◌, ◌≤◌, List, ◌∷◌, Some, None, Option}
use Rattle.std.proofs.Math.Path.{refl, ap}
use Rattle.std.proofs.Common.{sym, subst, ◌∙◌, le_refl}
use Rattle.std.proofs.Math.Logic.{⊎_elim}
use native.Mathlib.Omega.{arith}
use Rattle.std.proofs.Math.Nat.{le_trans, add-mul}
use Rattle.std.specs.List.{AllByRecursion}
use Rattle.std.proofs.lemmas.Nat.{mul-le}
use Rattle.std.proofs.lemmas.Bool.{cases_lt}
use Rattle.shelf.specs.Largest.{largest}
use Rattle.shelf.specs.Smallest.{Smallest}
use Rattle.shelf.specs.Times.{NoLater, AtMost, or_zero}
use Rattle.shelf.proofs.Maxima.{largest_le, le_largest, largest_is}
use Rattle.shelf.proofs.Solutions.{solution_is, solution_no_later, solution_at_most, solution_below}
use Rattle.streams.specs.declared.stream.Stream.{Stream}
use Rattle.streams.specs.Demands.{busy, ceil, demand, horizon, Fit}
use Rattle.streams.proofs.Demanding.{ceil_mono, ceil_pos, ceil_le, demand_cons, demand_mono}
use Rattle.bus.specs.Answers.{Waits, BusResponse, BusAnswer}
use Rattle.bus.specs.Buses.{busy_load, busy_period, queue_load, delay, instance_time, over_instances, response_by}

-- the frame itself is released at once
pub queue_starts : (s : Stream) (us : List Stream) (block : ℕ) → Fit s → 1 ≤ busy (s ∷ us) block 0 1
queue_starts s us block own =
    omega (arith, demand_cons s us 1, mul-le 1 1 (ceil 1 s.period) s.cost (ceil_pos s.period 1 (omega (arith, own.paced)) (le_refl 1)) own.priced.0)

pub busy_soon : (s : Stream) (us : List Stream) (b l : ℕ) → busy_period s us b ≡ Some l → l ≤ horizon
unfolding busy_period
busy_soon s us b l e = subst (AtMost horizon) e (solution_at_most (busy_load s us b) 1 horizon (omega arith))

-- what is found is the smallest solution
busy_smallest : (s : Stream) (us : List Stream) (b : ℕ) (o : Option ℕ) → busy_period s us b ≡ o → Smallest (λ t. t ≡ busy_load s us b t) 1 horizon o
unfolding busy_period
busy_smallest s us b o e = subst (Smallest (λ t. t ≡ busy_load s us b t) 1 horizon) e (solution_is (busy_load s us b) 1 horizon (omega arith))

pub delay_smallest : (a : ℕ) (s : Stream) (us : List Stream) (b q w : ℕ) → delay a s us b q ≡ Some w → Waits a s us b q w
unfolding delay
delay_smallest a s us b q w d =
    subst (Smallest (λ v. v ≡ queue_load a s us b q v) 0 horizon) d (solution_is (queue_load a s us b q) 0 horizon (omega arith))

-- ---- the loads rise with the time
module _ (s : Stream) (us : List Stream) (b : ℕ) (own : Fit s) (fit : AllByRecursion Fit us) where
  lasting : 1 ≤ s.period
  lasting = omega (arith, own.paced)

  load_is : (t : ℕ) → busy_load s us b t ≡ b + (ceil t s.period * s.cost + demand us t)
  load_is t = ap (λ n. b + n) (demand_cons s us t)

  pub busy_up : (v w : ℕ) → v ≤ w → busy_load s us b v ≤ busy_load s us b w
  busy_up v w h =
      omega (arith, load_is v, load_is w, mul-le (ceil v s.period) s.cost (ceil w s.period) s.cost (ceil_mono s.period v w lasting h) (le_refl s.cost), demand_mono us fit v w h)

  pub busy_starts : 1 ≤ busy_load s us b 1
  busy_starts = queue_starts s us b own

  pub queue_up : (a q v w : ℕ) → v ≤ w → queue_load a s us b q v ≤ queue_load a s us b q w
  queue_up a q v w h = omega (arith, demand_mono us fit (v + a) (w + a) (omega arith))

  -- q instances do not fill a busy period that has more
  unfilled : (l q : ℕ) → q < ceil l s.period → q * s.period < l
  unfilled l q h = grind (arith, ceil_le s.period l q lasting)

  module _ (a : ℕ) (short : a ≤ s.cost) where
    -- each instance of a busy period has a queueing delay, and is done when the busy period ends
    pub waits : (l q : ℕ) → busy_period s us b ≡ Some l → q < ceil l s.period → (v : ℕ) × (delay a s us b q ≡ Some v) × (v + s.cost ≤ l)
    unfolding delay busy_period
    waits l q e m =
        let found = busy_smallest s us b (Some l) e in
        let turns : (q + 1) * s.cost ≤ ceil l s.period * s.cost = mul-le (q + 1) s.cost (ceil l s.period) s.cost (omega arith) (le_refl s.cost) in
        let parts : (q + 1) * s.cost ≡ q * s.cost + s.cost = add-mul q 1 s.cost ∙ omega arith in
        let is : l ≡ b + (ceil l s.period * s.cost + demand us l) = found.2 ∙ load_is l in
        let v = solution_below (queue_load a s us b q) 0 horizon (l - s.cost) (omega arith) (queue_up a q) (omega arith) (omega arith) (omega (arith, found.1))
        (omega (arith, is, turns, parts, demand_mono us fit (l - s.cost + a) l (omega (arith, is, turns, parts)))) in
        (v.0, v.1, omega (arith, v.2, is, turns, parts))

    -- and begins no earlier than it is released: the bus has been busy all along
    pub begins : (l q w : ℕ) → busy_period s us b ≡ Some l → q < ceil l s.period → delay a s us b q ≡ Some w → q * s.period ≤ w
    unfolding delay busy_period
    begins l q w e m d = grind (arith, idle)
      where
        idle : w < q * s.period → ⊥
        idle early =
            let found = delay_smallest a s us b q w d in
            let turns : ceil w s.period * s.cost ≤ q * s.cost = mul-le (ceil w s.period) s.cost q s.cost (ceil_le s.period w q lasting (omega arith)) (le_refl s.cost) in
            let some : 1 ≤ q = ⊎_elim {C = 1 ≤ q} (λ z. let none : q ≡ 0 = omega arith in absurd (omega (arith, ap (λ n. n * s.period) none))) (λ h. h) (cases_lt q 1) in
            let waited : 1 ≤ w = omega (arith, found.2, mul-le 1 1 q s.cost some own.priced.0) in
            let v = solution_below (busy_load s us b) 1 horizon w (omega arith) busy_up busy_starts waited found.1 (omega (arith, load_is w, found.2, turns, demand_mono us fit w (w + a) (omega arith))) in
            let same : v.0 ≡ l = let x = v.1 in let y = e in cc in
            omega (arith, same, v.2, unfilled l q m)

-- ---- less to wait for, at any time, is no later
or_zero_le : (o u : Option ℕ) (v : ℕ) → o ≡ Some v → NoLater o u → or_zero u ≤ or_zero o
or_zero_le o u v e h = grind arith

module _ (a : ℕ) (s : Stream) (us : List Stream) (b : ℕ) (us' : List Stream) (b' : ℕ) (own : Fit s) (a_pos : 1 ≤ a) (short : a ≤ s.cost) (fit : AllByRecursion Fit us) (fit' : AllByRecursion Fit us')
    (less : (w : ℕ) → 1 ≤ w → b' + demand us' w ≤ b + demand us w) where
  delay_no_later : (q : ℕ) → NoLater (delay a s us b q) (delay a s us' b' q)
  unfolding delay
  delay_no_later q =
      solution_no_later (queue_load a s us b q) (queue_load a s us' b' q) 0 horizon (omega arith) (queue_up s us' b' own fit' a q) (omega arith) (λ w h. omega (arith, less (w + a) (omega arith)))

  busy_no_later : NoLater (busy_period s us b) (busy_period s us' b')
  unfolding busy_period
  busy_no_later =
      solution_no_later (busy_load s us b) (busy_load s us' b') 1 horizon (omega arith) (busy_up s us' b' own fit') (busy_starts s us' b' own fit')
      (λ w h. omega (arith, load_is s us b own fit w, load_is s us' b' own fit' w, less w h))

  instance_le : (l q : ℕ) → busy_period s us b ≡ Some l → q < ceil l s.period → instance_time a s us' b' q ≤ instance_time a s us b q
  unfolding instance_time
  instance_le l q e m =
      let x = waits s us b own fit a short l q e m in
      omega (arith, or_zero_le (delay a s us b q) (delay a s us' b' q) x.0 x.1 (delay_no_later q))

  pub response_no_later : NoLater (response_by a s us b) (response_by a s us' b')
  unfolding response_by
  response_no_later = go (busy_period s us b) (busy_period s us' b') refl busy_no_later
    where
      go : (o u : Option ℕ) → busy_period s us b ≡ o → NoLater o u → NoLater (over_instances o s.period (instance_time a s us b)) (over_instances u s.period (instance_time a s us' b'))
      go None u e h = tt
      go (Some l) None e h = absurd h
      go (Some l) (Some k) e h =
          largest_le (instance_time a s us' b') (ceil k s.period) (largest (instance_time a s us b) (ceil l s.period))
          (λ q m. let n : q < ceil l s.period = le_trans m (ceil_mono s.period k l (lasting s us b own fit) h) in
          le_trans (instance_le l q e n) (le_largest (instance_time a s us b) (ceil l s.period) q n))

-- ---- the answer in words
module _ (a : ℕ) (s : Stream) (us : List Stream) (b : ℕ) (own : Fit s) (short : a ≤ s.cost) (fit : AllByRecursion Fit us) where
  -- one instance: it waits, begins no earlier than it is released, and its time is exact
  instance_is : (l q : ℕ) → busy_period s us b ≡ Some l → q < ceil l s.period
      → (w : ℕ) × Waits a s us b q w × (q * s.period ≤ w) × (w + s.cost ≡ instance_time a s us b q + q * s.period) × (w + s.cost ≤ l)
  unfolding instance_time
  instance_is l q e m =
      let x = waits s us b own fit a short l q e m in
      let late = begins s us b own fit a short l q x.0 e m x.1 in
      (x.0, delay_smallest a s us b q x.0 x.1, late, omega (arith, ap or_zero x.1, late), x.2)

  some_instance : (l : ℕ) → busy_period s us b ≡ Some l → 0 < ceil l s.period
  some_instance l e = ceil_pos s.period l (lasting s us b own fit) (busy_smallest s us b (Some l) e).0

  response_is : (l : ℕ) → busy_period s us b ≡ Some l → BusResponse a s us b (largest (instance_time a s us b) (ceil l s.period))
  response_is l e =
      let times = instance_time a s us b in
      let n = ceil l s.period in
      let top = largest_is times n (some_instance l e) in
      let late = instance_is l top.place e top.within in
      let first = instance_is l 0 e (some_instance l e) in
      record {
        busy = l;
        busy_is = busy_smallest s us b (Some l) e;
        each = λ q m. let x = instance_is l q e m in (x.0, x.1, x.2, x.4, omega (arith, x.3, top.most q m));
        latest = top.place;
        within = top.within;
        wait = late.0;
        waits = late.1;
        takes = late.3 ∙ ap (λ r. r + top.place * s.period) (sym top.is);
        least = omega (arith, first.3, first.2, top.most 0 (some_instance l e));
        most = omega (arith, late.3, late.4, top.is);
      }

  pub response_answer : BusAnswer a s us b (response_by a s us b)
  unfolding response_by
  response_answer = go (busy_period s us b) refl
    where
      go : (o : Option ℕ) → busy_period s us b ≡ o → BusAnswer a s us b (over_instances o s.period (instance_time a s us b))
      go None e = busy_smallest s us b None e
      go (Some l) e = response_is l e

  pub response_bounded : AtMost horizon (response_by a s us b)
  response_bounded = by (response_by a s us b) response_answer
    where
      by : (o : Option ℕ) → BusAnswer a s us b o → AtMost horizon o
      by None h = tt
      by (Some r) h = le_trans h.most h.busy_is.1
