use Rattle.std.proofs.Common.{sym, ap, ◌∙◌}
use Rattle.signals.specs.Rows.{row_by}
use Rattle.signals.proofs.Riding.{riders_nil}
use Rattle.signals.proofs.Rowing.{row_nil, row_more, row_same, room_left}
use Rattle.signals.proofs.gather.gather.Goals as goal
use Rattle.signals.proofs.gather.gather.Goals.{then-entry-n, else-entry-n}

pub loop-entry-init : goal.loop-entry-init
loop-entry-init c = sym (ap row_by (riders_nil c.args.n) ∙ row_nil)

pub join-row-requires : goal.join-row-requires
join-row-requires c =
    room_left c.args.n c.args.entries.now c.loop-entry.entry-index c.loop-entry-test.true c.loop-entry.row c.loop-entry.invariant c.if-entry-n.true c.requires

pub loop-entry-preserved : goal.loop-entry-preserved
loop-entry-preserved c = elim c.if-entry-n.branch [
  | then-entry-n w ↦ w.row-is ∙ w.join-row.ensures ∙ row_more c.args.n c.args.entries.now c.loop-entry.entry-index c.loop-entry-test.true c.loop-entry.row c.loop-entry.invariant w.if-entry-n.true
  | else-entry-n w ↦ w.row-is ∙ row_same c.args.n c.args.entries.now c.loop-entry.entry-index c.loop-entry-test.true c.loop-entry.row c.loop-entry.invariant w.if-entry-n.false
]
