use Rattle.timing.specs.Everywhere.{everywhere}
use Rattle.timing.specs.Places.{by_number}
use Rattle.timing.specs.Places.{row_at}
use Rattle.ordering.specs.Orders.{orderable}
use Rattle.ordering.proofs.Dropping.{Dropping}
use Rattle.ordering.proofs.conflicts.find_conflict.Given as goal

abbrev pub invariant-loop-f : goal.invariant-loop-f
invariant-loop-f g l = Dropping (orderable (by_number (everywhere (g.B.Domain.response l.frames.bank.now)) (row_at l.frames.rows.now))) l.frames.rows.now l.f l.size l.table
