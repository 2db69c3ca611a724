use Rattle.std.proofs.Common.{rules, ◌≡◌, get_or, sym, ap, subst, ◌∙◌, ⊎_elim, arith}
use Rattle.std.proofs.lemmas.Option.{gets}
use Rattle.std.proofs.lemmas.List.{get_or_past}
use Rattle.std.proofs.lemmas.Bool.{cases_lt}
use Rattle.frames.specs.declared.row.Row.{Row}
use Rattle.frames.specs.Limits.{Lawful}
use Rattle.signals.specs.Rows.{row_by, longest}
use Rattle.signals.proofs.Rowing.{row_nil}
use Rattle.packing.specs.Holds.{held}
use Rattle.packing.specs.Packings.{row, rows}
use Rattle.packing.proofs.Placing.{riders_past}
use Rattle.packing.proofs.Rowed.{row_at, rows_long}
use Rattle.packing.proofs.Sounds.{to_sound}
use Rattle.packing.proofs.tables.Tables.row.Goals as goal

pub returns : goal.returns
returns c =
    let t = c.args.self.now in
    let p = held t in
    let n = c.args.n in
    let h = to_sound p t.ok in
    let blank : Row = record { sender = 0; fill = 0; period = longest; deadline = longest; set = 0 } in
    let got : c.unwrap_or.result ≡ get_or t.rows.items n blank = search (rules, gets) in
    let is : c.unwrap_or.result ≡ row p n = got ∙ ap (λ rs. get_or rs n blank) t.kept ∙ ⊎_elim {C = get_or (rows p) n blank ≡ row p n}
    (row_at p.signals p.frames n blank)
    (λ l. get_or_past _ n blank (omega (arith, rows_long p.signals p.frames)) ∙ sym (ap row_by (riders_past p n h l) ∙ row_nil))
    (cases_lt n p.frames) in
    record { is = is; lawful = λ l. subst Lawful (sym is) (h.frames n l) }
