-- What every kind of domain owes. Assumes nothing.
use Rattle.std.specs.Prelude.{◌≡◌, ℕ, ◌<◌, ◌≤◌, List, ◌∷◌, None, Option}
use Rattle.std.specs.List.{AllByRecursion}
use Rattle.frames.specs.declared.row.Row.{Row}
use Rattle.frames.specs.Limits.{Within, Lawful}
use Rattle.shelf.specs.Picks.{Perm}
use Rattle.shelf.specs.Times.{NoLater, AtMost}
use Rattle.streams.specs.Demands.{horizon, LawfulCost}

pub record Duties {D : Type 0} (count : D → ℕ) (cost : D → ℕ → ℕ → ℕ) (response : D → ℕ → Row → List Row → List Row → Option ℕ) : Type 0 where
  -- a bank is one to four domains
  pub sized : (d : D) → Within 1 (count d) 4
  -- a cost lies within its limits, and does not fall when the payload grows
  pub costs : (d : D) (k p : ℕ) → k < count d → p ≤ 64 → LawfulCost (cost d k p)
  pub grows : (d : D) (k p q : ℕ) → k < count d → p ≤ q → q ≤ 64 → cost d k p ≤ cost d k q
  -- a domain that is not there costs nothing and has no answer
  pub free : (d : D) (k p : ℕ) → count d ≤ k → cost d k p ≡ 0
  pub mute : (d : D) (k : ℕ) (f : Row) (above below : List Row) → count d ≤ k → response d k f above below ≡ None
  -- an answer depends on the frames above and the frames below, each as often as it occurs, and not on their order
  pub above_order : (d : D) (k : ℕ) (f : Row) (above other below : List Row) → Perm above other → response d k f above below ≡ response d k f other below
  pub below_order : (d : D) (k : ℕ) (f : Row) (above below other : List Row) → Perm below other → response d k f above below ≡ response d k f above other
  -- it is at most four seconds
  pub bounded : (d : D) (k : ℕ) (f : Row) (above below : List Row) → Lawful f → AllByRecursion Lawful above → AllByRecursion Lawful below → AtMost horizon (response d k f above below)
  -- when a frame is taken out, or moved from above to below, a time stays a time and does not grow
  pub drop_above : (d : D) (k : ℕ) (f x : Row) (above below : List Row) → Lawful f → Lawful x → AllByRecursion Lawful above → AllByRecursion Lawful below → NoLater (response d k f (x ∷ above) below) (response d k f above below)
  pub drop_below : (d : D) (k : ℕ) (f x : Row) (above below : List Row) → Lawful f → Lawful x → AllByRecursion Lawful above → AllByRecursion Lawful below → NoLater (response d k f above (x ∷ below)) (response d k f above below)
  pub move_down : (d : D) (k : ℕ) (f x : Row) (above below : List Row) → Lawful f → Lawful x → AllByRecursion Lawful above → AllByRecursion Lawful below → NoLater (response d k f (x ∷ above) below) (response d k f above (x ∷ below))
