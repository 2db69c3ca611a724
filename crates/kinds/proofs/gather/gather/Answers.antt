use Rattle.std.proofs.Common.{ℕ, ◌+◌, Bool, [], ◌∷◌, ◌++◌, map, get_or, sym, ap, ◌∙◌, subst, arith}
use Rattle.std.proofs.lemmas.List.{take_all}
use Rattle.frames.specs.Limits.{lawful}
use Rattle.frames.specs.Records.{row_of}
use Rattle.frames.proofs.Lawfuls.{checked_none, checked_some, lawful_from, lawful_frame}
use Rattle.shelf.specs.Folds.{every}
use Rattle.domains.specs.Asked.{same, stance, picked, standing, no_row}
use Rattle.domains.proofs.Places.{same_is}
use Rattle.lists.specs.declared.list.ArrayList.{ArrayList}
use Rattle.lists.specs.Items.{items}
use Rattle.streams.specs.declared.stream.Stream.{Stream}
use Rattle.kinds.specs.Gathered.{Gathered}
use Rattle.kinds.specs.Rows.{stream_by}
use Rattle.kinds.proofs.Gathering.{Gathering, gathering_skip, gathering_more, picked_fails}
use Rattle.kinds.proofs.gather.gather.Goals as goal
use Rattle.kinds.proofs.gather.gather.Goals.{then-eq+in_ok-frame, else-eq}

pub returns-in_err-frame : goal.returns-in_err-frame
unfolding standing
returns-in_err-frame g c =
    let q = c.args.question.now in
    let t : ℕ → Bool = λ i. same (stance q.places.now q.frame i) c.args.wanted in
    let here = ap (λ p. same p c.args.wanted) (sym c.stance.ensures) ∙ sym (same_is c.stance.result c.args.wanted) ∙ sym c.if-eq.ensures in
    let fails = checked_none (get_or q.rows.now c.loop-i.i no_row) c.try_from.result c.try_from.ensures c.in_err-frame.ensures.value in
    subst (Gathered (g.K.Kind.price c.args.kind.now) (standing c.args.wanted q.rows.now q.places.now q.frame)) (sym c.from_residual.ensures)
    (picked_fails lawful t q.rows.now c.loop-i.i no_row c.loop-i-test.true here fails)

pub loop-i-preserved : goal.loop-i-preserved
loop-i-preserved g c =
    let price = g.K.Kind.price c.args.kind.now in
    let q = c.args.question.now in
    let t : ℕ → Bool = λ i. same (stance q.places.now q.frame i) c.args.wanted in
    let rows = q.rows.now in
    let i = c.loop-i.i in
    let at = ap (λ p. same p c.args.wanted) (sym c.stance.ensures) ∙ sym (same_is c.stance.result c.args.wanted) in
    elim c.if-eq.branch [
      | then-eq+in_ok-frame w ↦
          let frame = w.in_ok-frame.frame in
          let row = checked_some (get_or q.rows.now i no_row) w.try_from.result frame w.try_from.ensures w.in_ok-frame.ensures.value in
          let now-found = ap (λ (v : ArrayList Stream 96). items v) w.found-is ∙ w.push.ensures ∙ ap (λ x. items c.loop-i.found ++ (x ∷ [])) w.stream_of.ensures in
          subst (Gathering price t rows (i + 1)) (sym now-found) (gathering_more price t rows i (items c.loop-i.found) c.loop-i.invariant c.loop-i-test.true (at ∙ sym w.if-eq.ensures) (row_of frame) row (lawful_from (row_of frame) (lawful_frame frame)))
      | else-eq w ↦
          subst (Gathering price t rows (i + 1)) (sym (ap (λ (v : ArrayList Stream 96). items v) w.found-is)) (gathering_skip price t rows i (items c.loop-i.found) c.loop-i.invariant c.loop-i-test.true (at ∙ sym w.if-eq.ensures))
    ]

pub returns : goal.returns
unfolding standing
returns g c =
    let q = c.args.question.now in
    let all = take_all c.loop-i.i q.rows.now (omega arith) in
    let t : ℕ → Bool = λ i. same (stance q.places.now q.frame i) c.args.wanted in
    (ap (λ l. every lawful (picked t l)) (sym all) ∙ c.loop-i.invariant.ok, c.loop-i.invariant.streams ∙ ap (λ l. map (stream_by (g.K.Kind.price c.args.kind.now)) (picked t l)) all)
