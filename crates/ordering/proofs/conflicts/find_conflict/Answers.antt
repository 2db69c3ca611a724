use Rattle.std.proofs.Common.{sym, ◌∙◌, arith}
use Rattle.ordering.proofs.Dropping.{dropping_none, dropping_kept, dropping_out, trial_none, trial_count}
use Rattle.ordering.proofs.conflicts.find_conflict.Goals as goal
use Rattle.ordering.proofs.conflicts.find_conflict.Goals.{then-not-has_order, else-not-has_order}

pub loop-f-init : goal.loop-f-init
loop-f-init g c = dropping_none _ c.args.frames.now.rows.now c.args.frames.now.few

pub overflow_sub-size : goal.overflow_sub-size
overflow_sub-size g c = omega (arith, trial_count c.loop-f.invariant c.loop-f-test.true)

pub overflow_sub-size-then-not-has_order : goal.overflow_sub-size-then-not-has_order
overflow_sub-size-then-not-has_order g c = omega (arith, trial_count c.loop-f.invariant c.loop-f-test.true)

pub has_order-requires : goal.has_order-requires
has_order-requires g c = record {
  free = omega (arith, trial_count c.loop-f.invariant c.loop-f-test.true);
  none = trial_none c.loop-f.invariant c.loop-f-test.true;
}

pub loop-f-preserved : goal.loop-f-preserved
loop-f-preserved g c = elim c.if-not-has_order.branch [
  | then-not-has_order w ↦ rw (w.table-is, w.size-is) (dropping_out c.loop-f.invariant c.loop-f-test.true (sym c.has_order.ensures ∙ w.if-not-has_order.true))
  | else-not-has_order w ↦ rw (w.table-is, w.size-is) (dropping_kept c.loop-f.invariant c.loop-f-test.true (sym c.has_order.ensures ∙ w.if-not-has_order.false))
]
