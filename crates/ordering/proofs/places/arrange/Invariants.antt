use Rattle.std.proofs.Common.{◌-◌, length}
use Rattle.lists.specs.Items.{items}
use Rattle.timing.specs.Everywhere.{everywhere}
use Rattle.timing.specs.Places.{above}
use Rattle.ordering.proofs.Placing.{Placing}
use Rattle.ordering.proofs.places.arrange.Given as goal

abbrev pub invariant-loop-places : goal.invariant-loop-places
invariant-loop-places g l = Placing (everywhere (g.B.Domain.response l.frames.bank.now)) l.frames.rows.now (above l.initial.places) l.count l.places (items l.placement.numbers) (l.count - length (items l.placement.numbers)) l.placement.examinations

abbrev pub decreases-loop-places : goal.decreases-loop-places
decreases-loop-places g l = l.count - length (items l.placement.numbers)
