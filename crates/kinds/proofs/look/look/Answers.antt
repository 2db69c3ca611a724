use Rattle.std.proofs.Common.{get_or, sym, ap, ◌∙◌, subst, arith}
use Rattle.std.specs.List.{AllByRecursion}
use Rattle.frames.proofs.Lawfuls.{from_lawful, lawful_row, checked_none, checked_some}
use Rattle.streams.specs.Demands.{Fit}
use Rattle.std.proofs.lemmas.List.Elements.{All-from_recursion}
use Rattle.domains.proofs.Asking.{asked_long, asked_outside, asked_unlawful, asked_unlawful_above, asked_unlawful_below, asked_is}
use Rattle.domains.proofs.Replying.{all_lawful}
use Rattle.domains.specs.Asked.{no_row}
use Rattle.kinds.specs.Looked.{Looked}
use Rattle.kinds.specs.Rows.{stream_by}
use Rattle.kinds.proofs.Singles.{all_fit, own_by}
use Rattle.kinds.proofs.look.look.Goals as goal
use Rattle.kinds.proofs.look.look.Goals.{then-question-gt-MAX_FRAMES-via-then-question-gt-MAX_FRAMES, then-question-gt-MAX_FRAMES-via-else-question-gt-MAX_FRAMES+then-question}

pub returns-then-question-gt-MAX_FRAMES : goal.returns-then-question-gt-MAX_FRAMES
returns-then-question-gt-MAX_FRAMES g c =
    let q = c.args.question.now in
    λ response. elim c.then-question-gt-MAX_FRAMES.branch [
      | then-question-gt-MAX_FRAMES-via-then-question-gt-MAX_FRAMES w ↦ asked_long response q.rows.now q.places.now q.frame w.if-question-gt-MAX_FRAMES.true
      | then-question-gt-MAX_FRAMES-via-else-question-gt-MAX_FRAMES+then-question w ↦ asked_outside response q.rows.now q.places.now q.frame w.if-question.true
    ]

pub returns-in_err-frame : goal.returns-in_err-frame
returns-in_err-frame g c =
    let q = c.args.question.now in
    subst (Looked _ q.rows.now q.places.now q.frame) (sym c.from_residual.ensures)
    (λ response. asked_unlawful response _ _ _ (checked_none (get_or q.rows.now q.frame no_row) c.try_from.result c.try_from.ensures c.in_err-frame.ensures.value))

pub returns-in_err-above : goal.returns-in_err-above
returns-in_err-above g c =
    let q = c.args.question.now in
    subst (Looked _ q.rows.now q.places.now q.frame) (sym c.from_residual-in_err-above.ensures) (λ response. asked_unlawful_above response _ _ _ c.in_err-above.ensures)

pub returns-in_err-below : goal.returns-in_err-below
returns-in_err-below g c =
    let q = c.args.question.now in
    subst (Looked _ q.rows.now q.places.now q.frame) (sym c.from_residual-in_err-below.ensures) (λ response. asked_unlawful_below response _ _ _ c.in_err-below.ensures)

pub invariant_of-result : goal.invariant_of-result
invariant_of-result g c =
    let laws = g.met.K.Kind.kept in
    let d = c.args.kind.now in
    let row = checked_some (get_or c.args.question.now.rows.now c.args.question.now.frame no_row) c.try_from.result c.in_ok-frame.frame c.try_from.ensures c.in_ok-frame.ensures.value in
    let own = lawful_row _ c.in_ok-frame.frame row in
    let above = c.in_ok-above.ensures in
    let below = c.in_ok-below.ensures in
    record {
      fit = subst Fit (sym (c.stream_of.ensures ∙ ap (stream_by (g.K.Kind.price d)) row)) (own_by laws d (get_or c.args.question.now.rows.now c.args.question.now.frame no_row) (from_lawful _ own)).fit;
      over = All-from_recursion Fit _ (subst (AllByRecursion Fit) (sym above.1) (all_fit laws d _ ((all_lawful _).0 above.0)));
      under = All-from_recursion Fit _ (subst (AllByRecursion Fit) (sym below.1) (all_fit laws d _ ((all_lawful _).0 below.0)));
    }

pub returns : goal.returns
returns g c =
    let row = checked_some (get_or c.args.question.now.rows.now c.args.question.now.frame no_row) c.try_from.result c.in_ok-frame.frame c.try_from.ensures c.in_ok-frame.ensures.value in
    let own = lawful_row _ c.in_ok-frame.frame row in
    let above = c.in_ok-above.ensures in
    let below = c.in_ok-below.ensures in
    record {
      lawful_own = from_lawful _ own;
      lawful_above = (all_lawful _).0 above.0;
      lawful_below = (all_lawful _).0 below.0;
      own_is = c.stream_of.ensures ∙ ap (stream_by (g.K.Kind.price c.args.kind.now)) row;
      above_is = above.1;
      below_is = below.1;
      answered = λ response. sym (asked_is response _ _ _ (omega arith) (omega arith) own above.0 below.0);
    }
