use Rattle.std.proofs.Common.{rules}
use Rattle.ordering.proofs.conflicts.has_order.Goals as goal

pub returns : goal.returns
returns g c = rw c.requires.free (search rules)
