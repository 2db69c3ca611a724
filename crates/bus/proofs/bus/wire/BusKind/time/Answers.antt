use Rattle.std.proofs.Common.{◌≡◌, Option, ℕ, None, sym, refl, ◌∙◌, subst, arith}
use Rattle.std.proofs.lemmas.List.Elements.{recursion_from_All}
use Rattle.streams.specs.Demands.{Fit}
use Rattle.kinds.specs.declared.view.View.{View}
use Rattle.kinds.specs.KindLaws.{Own}
use Rattle.bus.specs.declared.bus.Bus.{Bus}
use Rattle.bus.specs.Answers.{BusAnswer}
use Rattle.bus.specs.Buses.{blocking, bus_busy, bus_price, bus_time}
use Rattle.bus.specs.Bussing.{response_answer}
use Rattle.bus.specs.Wiring.{short}
use Rattle.bus.proofs.Instances.{instances_more, no_end, worst_found}
use Rattle.bus.proofs.bus.wire.BusKind.time.Goals as goal

-- the answer in words
in_words : (d : Bus) (v : View) → Own (bus_price d) v.own → (o : Option ℕ) → o ≡ bus_time d.arbitration v.own v.above.streams.now v.below.now → BusAnswer d.arbitration v.own v.above.streams.now (blocking v.below.now) o
in_words d v own o is =
    subst (BusAnswer d.arbitration v.own v.above.streams.now (blocking v.below.now)) (sym is)
    (response_answer d.arbitration v.own v.above.streams.now (blocking v.below.now) own.fit (short d v.own own) (recursion_from_All Fit _ v.above.fit))

pub returns-in_err-busy : goal.returns-in_err-busy
returns-in_err-busy c =
    let d = c.args.self.now in
    let v = c.args.view.now in
    -- by what `of` says, and by no name of a call
    let ends : None ≡ bus_busy v.own v.above.streams.now v.below.now = grind arith in
    let is = c.from_residual.ensures ∙ no_end d.arbitration v.own v.above.streams.now (blocking v.below.now) ends in
    record { is = is; words = in_words d v c.requires.own _ is }

pub loop-q-preserved : goal.loop-q-preserved
loop-q-preserved c =
    let p = c.in_ok-busy.busy in
    instances_more p.bus.arbitration p.view.own p.view.above.streams.now (blocking p.view.below.now) (recursion_from_All Fit _ p.view.above.fit) c.loop-q.q c.delay.result c.delay.ensures.is c.loop-q.worst c.loop-q.known _ _ c.loop-q.invariant refl (omega arith)

pub returns : goal.returns
returns c =
    let p = c.in_ok-busy.busy in
    let d = c.args.self.now in
    let v = c.args.view.now in
    -- the same, of the busy period that there is
    let same : bus_time p.bus.arbitration p.view.own p.view.above.streams.now p.view.below.now ≡ bus_time d.arbitration v.own v.above.streams.now v.below.now = grind arith in
    let all : c.loop-q.q ≡ c.instances-instances.result = omega arith in
    let is = worst_found p.bus.arbitration p.view.own p.view.above.streams.now (blocking p.view.below.now) p.length c.loop-q.q c.loop-q.worst p.is (all ∙ c.instances-instances.ensures) c.loop-q.invariant.worst_is
    ∙ same in
    record { is = is; words = in_words d v c.requires.own _ is }
