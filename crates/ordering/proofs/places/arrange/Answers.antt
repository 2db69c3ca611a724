use native.Mathlib.Nat.{sub-zero}
use Rattle.timing.proofs.Combining.{everywhere_laws}
use Rattle.lists.specs.Items.{items}
use Rattle.std.proofs.Common.{◌<◌, length, sym, ◌∙◌, arith}
use Rattle.ordering.proofs.Placing.{placing_none, placing_few, placing_more, placing_end, frame_within}
use Rattle.ordering.proofs.places.arrange.Goals as goal

pub loop-places-init : goal.loop-places-init
loop-places-init g c =
    rw (c.new.ensures, sub-zero) (placing_none _ c.args.frames.now.rows.now c.args.places.now c.args.count c.requires.long c.args.frames.now.few c.requires.free c.requires.none)

pub overflow_add-placement : goal.overflow_add-placement
overflow_add-placement g c = omega (arith, c.examine-looked.ensures.examinations, placing_few c.loop-places.invariant (omega arith))

pub bounds-places-f : goal.bounds-places-f
bounds-places-f g c = frame_within _ _ _ (sym c.examine-looked.ensures.frame ∙ c.in_ok-f.was)

pub overflow_cast-f : goal.overflow_cast-f
overflow_cast-f g c =
    let w = frame_within _ c.loop-places.places c.in_ok-f.f (sym c.examine-looked.ensures.frame ∙ c.in_ok-f.was) in
    omega arith

pub loop-places-preserved : goal.loop-places-preserved
loop-places-preserved g c =
    let room : length (items c.loop-places.placement.numbers) < c.args.count = omega arith in
    rw (c.push_front.ensures, c.examine-looked.ensures.examinations) (placing_more c.loop-places.invariant (everywhere_laws g.met.B.Domain.duties c.args.frames.now.bank.now) room c.in_ok-f.f (sym c.examine-looked.ensures.frame ∙ c.in_ok-f.was))

pub returns-in_err-f : goal.returns-in_err-f
returns-in_err-f g c =
    let room : length (items c.loop-places.placement.numbers) < c.args.count = omega arith in
    rw c.from_residual.ensures (placing_end c.loop-places.invariant (everywhere_laws g.met.B.Domain.duties c.args.frames.now.bank.now) room (sym c.examine-looked.ensures.frame ∙ c.in_err-f.was))
