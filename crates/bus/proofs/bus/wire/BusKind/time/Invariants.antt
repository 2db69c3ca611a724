use Rattle.bus.specs.Buses.{blocking}
use Rattle.bus.proofs.Instances.{Instances}
use Rattle.bus.proofs.bus.wire.BusKind.time.Given as goal

abbrev pub invariant-loop-q : goal.invariant-loop-q
invariant-loop-q l = Instances l.busy.bus.arbitration l.busy.view.own l.busy.view.above.streams.now (blocking l.busy.view.below.now) l.q l.worst l.known
