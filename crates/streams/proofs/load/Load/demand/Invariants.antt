use Rattle.std.proofs.Common.{◌≡◌, ◌*◌, ◌≤◌, take}
use Rattle.streams.specs.Demands.{demand}
use Rattle.streams.proofs.load.Load.demand.Given as goal

abbrev pub invariant-loop-stream : goal.invariant-loop-stream
invariant-loop-stream l = (l.sum ≤ 80020000000 * l.stream-index) × (l.sum ≡ demand (take l.stream-index l.self.streams.now) l.w)
