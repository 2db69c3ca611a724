use Rattle.std.proofs.Common.{ℕ, ◌+◌, drop, sym, ap, ◌∙◌}
use Rattle.std.proofs.lemmas.List.{at_drop_more}
use Rattle.shelf.specs.Folds.{least}
use Rattle.shelf.proofs.Folds.{least_min}
use Rattle.streams.specs.declared.stream.Stream.{Stream}
use Rattle.streams.proofs.totals.least_period.Goals as goal

pub loop-stream-preserved : goal.loop-stream-preserved
loop-stream-preserved c =
    let period : Stream → ℕ = λ s. s.period in
    let rest = drop (c.loop-stream.stream-index + 1) c.args.streams.now in
    ap (λ m. least period m rest) c.min-smallest.ensures ∙ least_min period c.loop-stream.smallest _ rest
    ∙ sym (at_drop_more (least period c.loop-stream.smallest) c.args.streams.now c.loop-stream.stream-index _ c.loop-stream-test.true) ∙ c.loop-stream.invariant
