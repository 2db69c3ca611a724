-- The plan of a sheet's signals. Assumes nothing.
use Rattle.std.specs.Prelude.{◌≡◌, List, [], ◌∷◌, ◌++◌, map}
use Rattle.signals.specs.declared.signal.Signal.{Signal}
use Rattle.packing.specs.Packings.{Packing}
use Rattle.plan.specs.Banks.{Bank}
use Rattle.plan.specs.Closes.{ordered, order_says}
use Rattle.plan.specs.Said.Said.{gives}
use Rattle.runs.specs.declared.call.Call.{Call}
use Rattle.runs.specs.declared.call.Call.TheVariants.{Enter, Close, Order}
use Rattle.runs.specs.Books.{new, replies, shut}
use Rattle.runs.specs.Promise.{Promise}
use Rattle.runs.specs.Replies.{of_change, of_move, of_order}

-- the signals are entered one after another, and the plan is closed and ordered
abbrev pub calls : List Signal → List Call
calls ss = map Enter ss ++ (Close ∷ Order ∷ [])

-- the packing p, ordered, is the plan of these calls on a plan just created, with all that such a plan promises; and no
-- signal is refused
pub record PlanOf (m : Bank) (ss : List Signal) (p : Packing) : Type 0 where
  pub promise : Promise m (calls ss) (shut p (ordered m p)) (replies m new (calls ss))
  pub said : replies m new (calls ss) ≡ map (λ s. of_change (gives [])) ss ++ (of_move ∷ of_order (order_says m p) ∷ [])
