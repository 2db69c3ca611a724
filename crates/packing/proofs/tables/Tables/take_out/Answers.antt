use Rattle.std.proofs.Common.{◌≤◌, set, sym, ap, ◌∙◌, subst, arith}
use Rattle.lists.specs.Items.{items}
use Rattle.signals.specs.Riders.{riders, any_in}
use Rattle.signals.specs.Rows.{row_by}
use Rattle.packing.specs.Holds.{held}
use Rattle.packing.specs.Packings.{taken_out}
use Rattle.packing.proofs.Keeping.{Kept, out_below, out_fill, stays, leaves}
use Rattle.packing.proofs.tables.Tables.take_out.Goals as goal
use Rattle.packing.proofs.tables.Tables.take_out.Goals.{After-put, After-remove}

pub gather-requires : goal.gather-requires
gather-requires c =
    let e = c.remove-gone.ensures in
    subst (λ es. (row_by (riders c.remove-gone.result.frame es)).fill ≤ 64) (sym c.as_slice-left.ensures) (out_fill c.args.self.now c.args.i c.requires _ _ e.value e.items)

pub put-requires : goal.put-requires
put-requires c =
    let e = c.remove-gone.ensures in
    let below = out_below c.args.self.now c.args.i c.requires _ _ e.value e.items in
    record { near = omega (arith, below.0); room = omega (arith, below.0, below.1) }

-- the frame stays
stayed : (c : goal.After-put) → Kept (taken_out (held c.args.self.now) c.args.i) (items c.remove-gone.new.self) c.put.new.rows.items
stayed c =
    let e = c.remove-gone.ensures in
    stays c.args.self.now c.args.i c.requires _ _ e.value e.items (ap (any_in _) (sym c.as_slice-left.ensures) ∙ sym c.if-has_rider.ensures) _
    (c.put.ensures.old (out_below c.args.self.now c.args.i c.requires _ _ e.value e.items).0 ∙ ap (set _ _) (c.gather.ensures ∙ ap (λ es. row_by (riders c.remove-gone.result.frame es)) c.as_slice-left.ensures))

pub invariant_of-self : goal.invariant_of-self
invariant_of-self c = record { ok = (stayed c).ok; kept = (stayed c).kept }

pub returns-then-has_rider : goal.returns-then-has_rider
returns-then-has_rider c = (stayed (goal.at.returns-then-has_rider c).After-put).is

pub remove-requires : goal.remove-requires
remove-requires c =
    let e = c.remove-gone.ensures in
    (omega arith, (out_below c.args.self.now c.args.i c.requires _ _ e.value e.items).0)

-- the frame leaves
left : (c : goal.After-remove) → Kept (taken_out (held c.args.self.now) c.args.i) (items c.close_up.new.self.entries) c.remove.new.self.items
left c =
    let e = c.remove-gone.ensures in
    leaves c.args.self.now c.args.i c.requires _ _ e.value e.items (ap (any_in _) (sym c.as_slice-left.ensures) ∙ sym c.if-has_rider.ensures) _ c.close_up.ensures _ c.remove.ensures.items

pub invariant_of-self-else-has_rider : goal.invariant_of-self-else-has_rider
invariant_of-self-else-has_rider c = record { ok = (left c).ok; kept = (left c).kept }

pub returns-else-has_rider : goal.returns-else-has_rider
returns-else-has_rider c = (left (goal.at.returns-else-has_rider c).After-remove).is
