use Rattle.std.proofs.Common.{sym, subst}
use Rattle.std.specs.List.{AllByRecursion}
use Rattle.std.proofs.lemmas.List.Elements.{recursion_from_All}
use Rattle.streams.specs.Demands.{Fit}
use Rattle.bus.proofs.bus.Bus.busy_period.Goals as goal

pub of-requires-clause-under : goal.of-requires-clause-under
of-requires-clause-under c = subst (AllByRecursion Fit) (sym c.view.ensures.below) (recursion_from_All Fit _ c.in_ok-streams.streams.under)
