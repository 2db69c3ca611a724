use Rattle.std.proofs.Common.{◌+◌, ◌*◌, sym, refl, ◌∙◌, ap₂, arith}
use Rattle.std.proofs.lemmas.List.Sums.{sum_by_more}
use Rattle.streams.specs.Demands.{ceil, demand}
use Rattle.streams.proofs.load.Load.demand.Goals as goal

pub loop-stream-init : goal.loop-stream-init
unfolding demand
loop-stream-init c = (omega arith, refl)

pub loop-stream-preserved : goal.loop-stream-preserved
unfolding demand
loop-stream-preserved c =
    (omega arith, ap₂ ◌+◌ c.loop-stream.invariant.1 c.share-sum.ensures.is ∙ sym (sum_by_more (λ s. ceil c.args.w s.period * s.cost) c.args.self.now.streams.now c.loop-stream.stream-index _ c.loop-stream-test.true))
