use Rattle.timing.specs.Everywhere.{everywhere}
use Rattle.timing.specs.Places.{tested, is_above}
use Rattle.ordering.proofs.Looking.{Looking}
use Rattle.ordering.proofs.places.examine.Given as goal

abbrev pub invariant-loop-f : goal.invariant-loop-f
invariant-loop-f g l = Looking is_above (tested (everywhere (g.B.Domain.response l.trial.frames.now.bank.now)) l.trial.frames.now.rows.now l.trial.places.now) l.trial.places.now l.f l.examinations
