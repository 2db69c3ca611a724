-- What the row of a frame says of its signals. Assumes nothing.
use Rattle.std.specs.Prelude.{◌≡◌, ℕ, true, List, sum_by}
use Rattle.std.specs.List.{AllByRecursion}
use Rattle.frames.specs.declared.row.Row.{Row}
use Rattle.timing.specs.Carried.{in_set}
use Rattle.shelf.specs.Folds.{Least}
use Rattle.shelf.specs.Picks.{Among}
use Rattle.signals.specs.declared.signal.Signal.{Signal}

-- one of the signals names domain k
abbrev pub Named : ℕ → List Signal → Type 0
Named k ss = (s : Signal) × Among s ss × (in_set k s.set ≡ true)

-- r is the row of a frame that carries these signals, one at least
pub record Gathered (ss : List Signal) (r : Row) : Type 0 where
  -- senders are not mixed
  pub sender : AllByRecursion (λ s. s.sender ≡ r.sender) ss
  pub fill : r.fill ≡ sum_by (λ s. s.size) ss
  -- one of them has the period, and none a shorter one; so there is one
  pub period : Least (λ s. s.period) ss r.period
  pub deadline : Least (λ s. s.deadline) ss r.deadline
  -- the frame is carried by exactly the domains that they name
  pub carried : (k : ℕ) → in_set k r.set ≡ true → Named k ss
  pub reaches : (k : ℕ) → Named k ss → in_set k r.set ≡ true
