use Rattle.std.proofs.Common.{rules, sym, subst}
use Rattle.std.proofs.ByRecursion.{All-get_or}
use Rattle.std.proofs.lemmas.Iterator.{YieldsList-from_slice}
use Rattle.std.proofs.lemmas.Iterator.Adapters.{serves_from_places}
use Rattle.frames.specs.Limits.{Lawful}
use Rattle.weights.specs.Weights.{rows_weight}
use Rattle.weights.proofs.weigh.rows_weight.Goals as goal

pub sum-requires-clause-can : goal.sum-requires-clause-can
sum-requires-clause-can g c = (
  tt,
  serves_from_places (YieldsList-from_slice c.args.frames.now.rows.now (search rules)) (λ x q e. search rules)
      (λ x k l e. let one : Lawful x.now = subst Lawful (sym e) (All-get_or Lawful c.args.frames.now.rows.now k _ l c.requires) in search rules),
)

pub returns : goal.returns
unfolding rows_weight
returns g c = search rules
