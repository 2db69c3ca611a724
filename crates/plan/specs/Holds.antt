-- What a plan in the code holds. Assumes nothing.
use Rattle.std.specs.Prelude.{ℕ, take}
use Rattle.lists.specs.Items.{items}
use Rattle.timing.specs.Places.{above}
use Rattle.plan.specs.declared.closed.Standing.{Standing}
use Rattle.plan.specs.declared.closed.Standing.TheVariants.{Neither, Ordered, Clashing}
use Rattle.plan.specs.Stands.{Stands}
use Rattle.plan.specs.Stands.Stands.{nothing, order, conflict}

-- of a plan with n frames
abbrev pub stands_of : ℕ → Standing → Stands
stands_of n Neither = nothing
stands_of n (Ordered p) = order (items p.numbers)
stands_of n (Clashing c) = conflict (above (take n c.table))
