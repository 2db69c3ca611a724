use Rattle.std.proofs.Common.{◌<◌, ◌≤◌, sym, ap, ◌∙◌, subst, arith}
use Rattle.std.specs.List.{AllByRecursion}
use Rattle.std.proofs.lemmas.List.Elements.{recursion_from_All}
use Rattle.streams.specs.Demands.{ceil, Fit}
use Rattle.kinds.specs.declared.view.View.{View}
use Rattle.kinds.proofs.Seeing.{seen_is}
use Rattle.bus.specs.declared.bus.Bus.{Bus}
use Rattle.bus.specs.Buses.{blocking, bus_price, bus_instance}
use Rattle.bus.proofs.Instances.{instance_none, instance_past, instance_found}
use Rattle.bus.proofs.bus.Bus.instance.Goals as goal

pub of-requires-clause-under : goal.of-requires-clause-under
of-requires-clause-under c = subst (AllByRecursion Fit) (sym c.view.ensures.below) (recursion_from_All Fit _ c.in_ok-streams.streams.under)

pub returns-in_err-busy : goal.returns-in_err-busy
returns-in_err-busy c =
    let a = c.args.self.now.arbitration in
    let v = c.view.result in
    c.from_residual-in_err-busy.ensures ∙ instance_none a v.own v.above.streams.now (blocking v.below.now) c.in_err-busy.ensures c.args.q
    ∙ seen_is (bus_price c.args.self.now) _ _ _ c.in_ok-streams.streams c.in_ok-streams.ensures (bus_instance a c.args.q) c.view.ensures.own c.view.ensures.above c.view.ensures.below

pub returns-then-q-instances : goal.returns-then-q-instances
returns-then-q-instances c =
    let p = c.in_ok-busy.busy in
    let past : ceil p.length p.view.own.period ≤ c.args.q = omega (arith, c.instances.ensures) in
    instance_past p.bus.arbitration p.view.own p.view.above.streams.now (blocking p.view.below.now) p.length c.args.q p.is past
    ∙ ap (λ (d : Bus). bus_instance d.arbitration c.args.q p.view.own p.view.above.streams.now p.view.below.now) c.in_ok-busy.ensures.0
    ∙ seen_is (bus_price c.args.self.now) _ _ _ c.in_ok-streams.streams c.in_ok-streams.ensures (bus_instance c.args.self.now.arbitration c.args.q)
    (ap (λ (v : View). v.own) c.in_ok-busy.ensures.1 ∙ c.view.ensures.own)
    (ap (λ (v : View). v.above.streams.now) c.in_ok-busy.ensures.1 ∙ c.view.ensures.above)
    (ap (λ (v : View). v.below.now) c.in_ok-busy.ensures.1 ∙ c.view.ensures.below)

pub returns : goal.returns
returns c =
    let p = c.in_ok-busy.busy in
    let in_busy : c.args.q < ceil p.length p.view.own.period = omega (arith, c.instances.ensures) in
    instance_found p.bus.arbitration p.view.own p.view.above.streams.now (blocking p.view.below.now) p.length c.args.q c.delay.result p.is in_busy c.delay.ensures.is
    ∙ ap (λ (d : Bus). bus_instance d.arbitration c.args.q p.view.own p.view.above.streams.now p.view.below.now) c.in_ok-busy.ensures.0
    ∙ seen_is (bus_price c.args.self.now) _ _ _ c.in_ok-streams.streams c.in_ok-streams.ensures (bus_instance c.args.self.now.arbitration c.args.q)
    (ap (λ (v : View). v.own) c.in_ok-busy.ensures.1 ∙ c.view.ensures.own)
    (ap (λ (v : View). v.above.streams.now) c.in_ok-busy.ensures.1 ∙ c.view.ensures.above)
    (ap (λ (v : View). v.below.now) c.in_ok-busy.ensures.1 ∙ c.view.ensures.below)
