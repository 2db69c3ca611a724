use Rattle.std.proofs.Common.{◌≡◌, ◌*◌, ◌≤◌, take}
use Rattle.streams.specs.Demands.{total}
use Rattle.streams.proofs.load.Load.total_cost.Given as goal

abbrev pub invariant-loop-stream : goal.invariant-loop-stream
invariant-loop-stream l = (l.sum ≤ 20000000 * l.stream-index) × (l.sum ≡ total (take l.stream-index l.self.streams.now))
