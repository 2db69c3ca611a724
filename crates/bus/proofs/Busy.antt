-- A busy period that has an end, and an instance of it. Assumes nothing.
use Rattle.std.proofs.Common.{◌≡◌, ℕ, ◌+◌, ◌*◌, ◌<◌, ◌≤◌, Some, Option, sym, ap, ◌∙◌, arith}
use Rattle.std.proofs.lemmas.List.Elements.{recursion_from_All}
use Rattle.shelf.specs.Smallest.{solution}
use Rattle.streams.specs.Demands.{busy, ceil, horizon, Fit}
use Rattle.bus.specs.declared.bus.busy.BusyPeriod.{BusyPeriod}
use Rattle.bus.specs.Buses.{blocking, delay}
use Rattle.bus.specs.Bussing.{waits, begins, busy_soon}
use Rattle.bus.specs.Wiring.{short}
use Rattle.bus.proofs.Instances.{few_instances}

module _ (p : BusyPeriod) (q : ℕ) (within : q < ceil p.length p.view.own.period) where
  -- what goes before the instance fits
  pub base_low : p.blocked_for + q * p.view.own.cost ≤ 80020000000
  base_low =
      omega (arith, p.low, few_instances p.view.own p.own.fit p.length q (busy_soon p.view.own p.view.above.streams.now (blocking p.view.below.now) p.length (sym p.is)) within)

  -- what the search for its delay finds
  pub found_is : (o : Option ℕ) → o ≡ solution (busy p.view.above.streams.now (p.blocked_for + q * p.view.own.cost) p.bus.arbitration) 0 horizon
      → o ≡ delay p.bus.arbitration p.view.own p.view.above.streams.now (blocking p.view.below.now) q
  unfolding delay
  found_is o e =
      e ∙ ap (λ (n : ℕ). solution (busy p.view.above.streams.now (n + q * p.view.own.cost) p.bus.arbitration) 0 horizon) p.blocked

  pub its_wait : (w : ℕ) × (delay p.bus.arbitration p.view.own p.view.above.streams.now (blocking p.view.below.now) q ≡ Some w) × (w + p.view.own.cost ≤ p.length)
  its_wait =
      waits p.view.own p.view.above.streams.now (blocking p.view.below.now) p.own.fit (recursion_from_All Fit _ p.view.above.fit) p.bus.arbitration (short p.bus p.view.own p.own) p.length q (sym p.is) within

  pub its_start : (w : ℕ) → delay p.bus.arbitration p.view.own p.view.above.streams.now (blocking p.view.below.now) q ≡ Some w → q * p.view.own.period ≤ w
  its_start w d =
      begins p.view.own p.view.above.streams.now (blocking p.view.below.now) p.own.fit (recursion_from_All Fit _ p.view.above.fit) p.bus.arbitration (short p.bus p.view.own p.own) p.length q w (sym p.is) within d
