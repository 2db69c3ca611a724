use Rattle.std.proofs.Common.{◌≡◌, drop}
use Rattle.shelf.specs.Folds.{least}
use Rattle.streams.proofs.totals.least_period.Given as goal

abbrev pub invariant-loop-stream : goal.invariant-loop-stream
invariant-loop-stream l = least (λ s. s.period) l.smallest (drop l.stream-index l.streams) ≡ least (λ s. s.period) l.first l.streams
