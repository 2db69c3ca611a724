use Rattle.std.proofs.Common.{◌++◌, [], ◌∷◌, ap, ◌∙◌}
use Rattle.packing.specs.Holds.{held}
use Rattle.packing.specs.Packings.{row}
use Rattle.listing.specs.Lines.{conflict_line, row_text, feed}
use Rattle.listing.proofs.Writing.{record_is, three}
use Rattle.listing.proofs.text.Listing.push_conflict_line.Goals as goal

pub returns-clause-is : goal.returns-clause-is
unfolding conflict_line
returns-clause-is g c =
    let p = held c.args.plan.now.tables in
    let e = record_is p c.args.n c.record.result c.unwrap-frame.result c.record.ensures c.unwrap-frame.ensures in
    three c.args.self.now.bytes.items (70 ∷ 70 ∷ 70 ∷ []) (row_text (row p c.args.n)) feed c.push_text.ensures.is (c.push_row.ensures.is ∙ ap (λ r. c.push_text.new.self.bytes.items ++ row_text r) e) c.push_feed.ensures.is
