use Rattle.std.proofs.Common.{◌≡◌, ◌<◌, ◌≤◌, cond, ltb, length, take, get_or, sym, ap, ◌∙◌, arith, rules, length-take}
use Rattle.std.proofs.lemmas.List.{get_or-take}
use Rattle.domains.specs.Asked.{no_row}
use Rattle.domains.specs.declared.place.Place.TheVariants.{Above, Below, Absent}
use Rattle.timing.specs.Carried.{carried}
use Rattle.timing.proofs.Tables.{made_at}
use Rattle.timing.proofs.Ranking.{ranked_response, long, outside, not_carried}
use Rattle.timing.proofs.ranked.response_at.Goals as goal
use Rattle.timing.proofs.ranked.response_at.Goals.{then-rows-gt-MAX_FRAMES-via-then-rows-gt-MAX_FRAMES, then-rows-gt-MAX_FRAMES-via-else-rows-gt-MAX_FRAMES+in_ok-get+then-not-carries}

pub returns-in_err-get : goal.returns-in_err-get
returns-in_err-get g c =
    let past : length c.args.rows.now ≤ c.args.f = search rules in
    c.from_residual.ensures ∙ outside _ c.args.k c.args.rows.now c.args.f past

pub returns-then-rows-gt-MAX_FRAMES : goal.returns-then-rows-gt-MAX_FRAMES
returns-then-rows-gt-MAX_FRAMES g c = elim c.then-rows-gt-MAX_FRAMES.branch [
  | then-rows-gt-MAX_FRAMES-via-then-rows-gt-MAX_FRAMES w ↦ long _ c.args.k c.args.rows.now c.args.f w.if-rows-gt-MAX_FRAMES.true
  | then-rows-gt-MAX_FRAMES-via-else-rows-gt-MAX_FRAMES+in_ok-get+then-not-carries w ↦
      let row : w.in_ok-get.field-0.now ≡ get_or c.args.rows.now c.args.f no_row = search rules in
      not_carried _ c.args.k c.args.rows.now c.args.f (ap (carried c.args.k) (sym row) ∙ sym w.carries.ensures ∙ w.if-not-carries.true)
]

pub returns : goal.returns
returns g c =
    let rows = c.args.rows.now in
    let table = c.from_fn-table.result in
    let ranks = made_at _ (λ i y. y ≡ cond (ltb i c.args.f) Above Below) (λ i y q e. search rules) table Absent 96 c.from_fn-table.ensures.items in
    let row : c.in_ok-get.field-0.now ≡ get_or rows c.args.f no_row = search rules in
    let within : c.args.f < length rows = search rules in
    let few : length rows ≤ 96 = omega arith in
    c.response_in.ensures
    ∙ ranked_response rows (take (length rows) table) c.args.f (simp length-take (omega arith)) (λ j l. get_or-take (length rows) table j Absent (omega arith) ∙ ranks j (omega arith)) (g.B.Domain.response c.args.bank.now) c.args.k few within (ap (carried c.args.k) (sym row) ∙ sym c.carries.ensures ∙ c.if-not-carries.false)
