use Rattle.std.proofs.Common.{◌≡◌, max, drop}
use Rattle.shelf.specs.Folds.{most}
use Rattle.streams.proofs.totals.largest_cost.Given as goal

abbrev pub invariant-loop-stream : goal.invariant-loop-stream
invariant-loop-stream l = max l.largest (most (λ s. s.cost) (drop l.stream-index l.streams)) ≡ most (λ s. s.cost) l.streams
