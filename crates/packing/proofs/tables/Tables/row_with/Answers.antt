use Rattle.std.proofs.Common.{◌≡◌, sym, ap, ◌∙◌, subst}
use Rattle.frames.specs.Limits.{Lawful}
use Rattle.signals.specs.Riders.{riders}
use Rattle.signals.specs.Rows.{joined}
use Rattle.signals.proofs.Rowing.{row_push}
use Rattle.packing.specs.Choices.{row_with}
use Rattle.packing.specs.Holds.{held}
use Rattle.packing.proofs.Placing.{lawful_with}
use Rattle.packing.proofs.Sounds.{to_sound}
use Rattle.packing.proofs.tables.Tables.row_with.Goals as goal

pub returns : goal.returns
returns c =
    let p = held c.args.self.now in
    let n = c.args.n in
    let s = c.args.signal.now in
    let is : c.join.result ≡ row_with p n s = c.join.ensures ∙ ap (λ r. joined r s) c.row.ensures.is ∙ sym (row_push (riders n p.signals) s) in
    record { is = is; lawful = λ l. subst Lawful (sym is) (lawful_with p n s (to_sound p c.args.self.now.ok) l c.requires) }
