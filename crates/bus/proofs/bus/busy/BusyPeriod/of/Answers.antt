use Rattle.std.proofs.Common.{◌≡◌, ℕ, ◌+◌, ◌≤◌, List, ◌∷◌, None, Option, MatchOption, sym, ap, ◌∙◌, subst, add-zero}
use mathlib.Core.Path.{fun_ext}
use Rattle.shelf.specs.Smallest.{solution}
use Rattle.streams.specs.declared.stream.Stream.{Stream}
use Rattle.streams.specs.Demands.{busy, demand, horizon}
use Rattle.bus.specs.declared.bus.busy.BusyPeriod.{BusyPeriod}
use Rattle.bus.specs.Buses.{blocking, busy_period, bus_busy}
use Rattle.bus.specs.Bussing.{queue_starts}
use Rattle.bus.proofs.Instances.{blocking_is}
use Rattle.bus.proofs.bus.busy.BusyPeriod.of.Goals as goal

-- what the search for the end finds
busy_is : (s : Stream) (us below queue : List Stream) (b : ℕ) (o : Option ℕ) → queue ≡ s ∷ us → b ≡ blocking below → o ≡ solution (busy queue b 0) 1 horizon → o ≡ busy_period s us (blocking below)
unfolding busy_period
busy_is s us below queue b o is blocked e =
    e ∙ ap (λ (rule : ℕ → ℕ). solution rule 1 horizon) (fun_ext (λ t. ap (λ l. busy l b 0 t) is ∙ ap (λ n. b + demand (s ∷ us) n) (add-zero t)))
    ∙ ap (busy_period s us) blocked

pub settle-requires-clause-rises : goal.settle-requires-clause-rises
settle-requires-clause-rises c =
    let v = c.args.view.now in
    let queue = c.new.ensures ∙ c.deref.ensures.0 ∙ c.queue_of-queue.ensures in
    subst (λ (l : List Stream). 1 ≤ busy l c.largest_cost-blocked_for.result 0 1) (sym queue) (queue_starts v.own v.above.streams.now c.largest_cost-blocked_for.result v.fit)

pub returns-in_err-length : goal.returns-in_err-length
returns-in_err-length c =
    let v = c.args.view.now in
    let queue = c.new.ensures ∙ c.deref.ensures.0 ∙ c.queue_of-queue.ensures in
    let blocked = blocking_is _ _ c.largest_cost-blocked_for.ensures.is in
    subst
    (λ (o : Option BusyPeriod). MatchOption o (None ≡ bus_busy v.own v.above.streams.now v.below.now) (λ p. (p.bus ≡ c.args.bus) × (p.view ≡ v)))
    (sym c.from_residual.ensures)
    (busy_is v.own v.above.streams.now v.below.now _ c.largest_cost-blocked_for.result None queue blocked c.in_err-length.ensures.is)

pub invariant_of-result : goal.invariant_of-result
invariant_of-result c =
    let v = c.args.view.now in
    let queue = c.new.ensures ∙ c.deref.ensures.0 ∙ c.queue_of-queue.ensures in
    let blocked = blocking_is _ _ c.largest_cost-blocked_for.ensures.is in
    record {
      own = c.requires.own;
      blocked = blocked;
      low = c.largest_cost-blocked_for.ensures.low;
      is = busy_is v.own v.above.streams.now v.below.now _ c.largest_cost-blocked_for.result _ queue blocked c.in_ok-length.ensures.is;
    }
