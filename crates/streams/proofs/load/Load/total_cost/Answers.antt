use Rattle.std.proofs.Common.{◌+◌, get_or, sym, refl, ap, ◌∙◌, arith}
use Rattle.std.proofs.lemmas.List.Sums.{sum_by_more}
use Rattle.streams.specs.Demands.{total}
use Rattle.streams.proofs.Demanding.{no_stream}
use Rattle.streams.proofs.load.Load.total_cost.Goals as goal

pub loop-stream-init : goal.loop-stream-init
unfolding total
loop-stream-init c = (omega arith, refl)

pub loop-stream-preserved : goal.loop-stream-preserved
unfolding total
loop-stream-preserved c =
    let fit = c.args.self.now.fit c.loop-stream.stream-index no_stream c.loop-stream-test.true in
    (omega (arith, fit.priced, c.loop-stream.invariant.0), ap (λ n. n + (get_or c.args.self.now.streams.now c.loop-stream.stream-index no_stream).cost) c.loop-stream.invariant.1 ∙ sym (sum_by_more (λ s. s.cost) c.args.self.now.streams.now c.loop-stream.stream-index no_stream c.loop-stream-test.true))
