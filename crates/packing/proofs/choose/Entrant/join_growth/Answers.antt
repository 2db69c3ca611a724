use Rattle.std.proofs.Common.{ap, ◌∙◌, subst, arith}
use Rattle.frames.specs.Limits.{Lawful}
use Rattle.weights.specs.Weights.{row_weight}
use Rattle.weights.proofs.Weighing.{cost_grows}
use Rattle.packing.specs.Holds.{held}
use Rattle.packing.proofs.Offers.{other_sender, too_full, joins, heavier}
use Rattle.packing.proofs.choose.Entrant.join_growth.Goals as goal

pub returns-then-row-self : goal.returns-then-row-self
returns-then-row-self g c = other_sender _ _ _ _ c.requires _ c.row-row.ensures.is c.if-row-self.true

pub overflow_add-row : goal.overflow_add-row
overflow_add-row g c = record {
  fits = omega (arith, (c.row-row.ensures.lawful c.requires).filled.1, c.args.self.now.lawful.sized.1);
}

pub returns-then-row-self-gt-MAX_FILL : goal.returns-then-row-self-gt-MAX_FILL
returns-then-row-self-gt-MAX_FILL g c =
    too_full _ _ _ _ c.requires _ c.row-row.ensures.is (omega (arith, c.if-row-self-gt-MAX_FILL.true))

pub overflow_sub-result : goal.overflow_sub-result
overflow_sub-result g c =
    let cost = g.D.Domain.cost c.args.self.now.bank.now in
    let w = row_weight cost in
    let more = heavier cost (held c.args.self.now.tables.now) c.args.self.now.signal.now c.args.n (subst Lawful c.row_with.ensures.is (c.row_with.ensures.lawful c.args.self.now.lawful)) (cost_grows _ _ _ g.met.D.Domain.duties c.args.self.now.bank.now) in
    omega (arith, c.row_weight.ensures.is, ap w c.row-row.ensures.is, c.row_weight-after.ensures.is, ap w c.row_with.ensures.is, more)

pub returns : goal.returns
returns g c =
    let w = row_weight (g.D.Domain.cost c.args.self.now.bank.now) in
    joins _ _ _ _ c.requires _ c.row-row.ensures.is c.if-row-self.false (omega (arith, c.if-row-self-gt-MAX_FILL.false)) _ _ (c.row_weight-after.ensures.is ∙ ap w c.row_with.ensures.is) (c.row_weight.ensures.is ∙ ap w c.row-row.ensures.is)
