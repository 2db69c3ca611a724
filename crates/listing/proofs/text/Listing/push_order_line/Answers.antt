use Rattle.std.proofs.Common.{◌++◌, ap, ◌∙◌}
use Rattle.fields.specs.Hex.{hex}
use Rattle.packing.specs.Holds.{held}
use Rattle.packing.specs.Packings.{row}
use Rattle.plan.specs.Banks.{bank_of}
use Rattle.plan.specs.Closes.{identifier_says}
use Rattle.plan.specs.Holds.{stands_of}
use Rattle.listing.specs.Lines.{order_line, row_text, times_in, times_text, value_said, feed}
use Rattle.listing.proofs.Writing.{record_is, value_is, four_texts}
use Rattle.listing.proofs.text.Listing.push_order_line.Goals as goal

pub returns-clause-is : goal.returns-clause-is
unfolding order_line
returns-clause-is g c =
    let x = c.args.plan.now.bank in
    let m = bank_of (g.B.Domain.count x) (g.B.Domain.cost x) (g.B.Domain.response x) in
    let p = held c.args.plan.now.tables in
    let st = stands_of p.frames c.args.plan.now.standing in
    let n = c.args.n in
    let e = record_is p n c.record.result c.unwrap-frame.result c.record.ensures c.unwrap-frame.ensures in
    four_texts c.args.self.now.bytes.items (hex 3 (value_said (identifier_says p st n))) (row_text (row p n)) (times_text (times_in m p st n (row p n).set)) feed
    (c.push_text.ensures.is ∙ ap (λ l. c.args.self.now.bytes.items ++ l) (c.hex.ensures ∙ ap (hex 3) (c.from.ensures ∙ c.unwrap_or-identifier.ensures ∙ value_is c.identifier.result _ c.identifier.ensures)))
    (c.push_row.ensures.is ∙ ap (λ r. c.push_text.new.self.bytes.items ++ row_text r) e)
    (c.push_times.ensures.is ∙ ap (λ s. c.push_row.new.self.bytes.items ++ times_text (times_in m p st n s)) (ap (λ r. r.set) (c.from-2.ensures ∙ e)))
    c.push_feed.ensures.is
