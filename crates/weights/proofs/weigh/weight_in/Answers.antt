use Rattle.std.proofs.Common.{sym, ap, ◌∙◌, arith}
use Rattle.frames.proofs.Fitting.{payload_le}
use Rattle.streams.proofs.Demanding.{weight_le}
use Rattle.weights.proofs.Weighing.{cost_le, not_weighed, weighed, weightless}
use Rattle.weights.proofs.weigh.weight_in.Goals as goal

pub returns-then-not-carries : goal.returns-then-not-carries
returns-then-not-carries g c = record {
  is = not_weighed (g.D.Domain.cost c.args.bank.now) c.args.k _ _ c.from-row.ensures (sym c.if-not-carries.ensures);
  low = omega arith;
}

pub returns-then-cost-eq0 : goal.returns-then-cost-eq0
returns-then-cost-eq0 g c = record {
  is = sym (weightless (record { cost = c.cost-cost.result; period = c.from-row.result.period }) c.if-cost-eq0.true (omega (arith, ap (λ r. r.period) c.from-row.ensures, c.args.frame.now.paced.0)))
      ∙ weighed (g.D.Domain.cost c.args.bank.now) c.args.k _ _ c.from-row.ensures _ (sym c.if-not-carries.ensures) c.cost-cost.ensures;
  low = omega arith;
}

pub weight_of-requires : goal.weight_of-requires
weight_of-requires g c = record {
  priced = (omega (arith, c.if-cost-eq0.false), omega (arith, c.cost-cost.ensures, cost_le _ _ _ g.met.D.Domain.duties c.args.bank.now c.args.k _ (payload_le c.args.frame.now.fill)));
  paced = (omega (arith, ap (λ r. r.period) c.from-row.ensures, c.args.frame.now.paced.0), omega (arith, ap (λ r. r.period) c.from-row.ensures, c.args.frame.now.paced.1));
}

pub returns : goal.returns
returns g c =
    let light = weight_le (record { cost = c.cost-cost.result; period = c.from-row.result.period })
    (omega (arith, c.cost-cost.ensures, cost_le _ _ _ g.met.D.Domain.duties c.args.bank.now c.args.k _ (payload_le c.args.frame.now.fill)))
    (omega (arith, ap (λ r. r.period) c.from-row.ensures, c.args.frame.now.paced.0)) in
    record {
      is = c.weight_of.ensures ∙ weighed (g.D.Domain.cost c.args.bank.now) c.args.k _ _ c.from-row.ensures _ (sym c.if-not-carries.ensures) c.cost-cost.ensures;
      low = omega (arith, c.weight_of.ensures, light);
    }
