-- The duties of a kind of domain, for streams. Assumes nothing.
use Rattle.std.specs.Prelude.{◌≡◌, ℕ, ◌≤◌, List, ◌∷◌, Option}
use Rattle.std.specs.List.{AllByRecursion}
use Rattle.shelf.specs.Picks.{Perm}
use Rattle.shelf.specs.Times.{NoLater, AtMost}
use Rattle.streams.specs.declared.stream.Stream.{Stream}
use Rattle.streams.specs.Demands.{horizon, Fit, LawfulCost}

-- the stream of the frame asked about: it costs no less than an empty payload
pub record Own (price : ℕ → ℕ) (s : Stream) : Type 0 where
  pub fit : Fit s
  pub least : price 0 ≤ s.cost

pub record KindLaws {D : Type 0} (price : D → ℕ → ℕ) (time : D → Stream → List Stream → List Stream → Option ℕ) : Type 0 where
  -- a price lies within the limits of a cost, and does not fall when the payload grows
  pub costs : (d : D) (p : ℕ) → p ≤ 64 → LawfulCost (price d p)
  pub grows : (d : D) (p q : ℕ) → p ≤ q → q ≤ 64 → price d p ≤ price d q
  -- the order of the streams does not matter
  pub above_order : (d : D) (s : Stream) (above other below : List Stream) → Perm above other → time d s above below ≡ time d s other below
  pub below_order : (d : D) (s : Stream) (above below other : List Stream) → Perm below other → time d s above below ≡ time d s above other
  pub bounded : (d : D) (s : Stream) (above below : List Stream) → Own (price d) s → AllByRecursion Fit above → AllByRecursion Fit below → AtMost horizon (time d s above below)
  -- when a stream is taken out, or moved from above to below, a time stays a time and does not grow
  pub drop_above : (d : D) (s x : Stream) (above below : List Stream) → Own (price d) s → Fit x → AllByRecursion Fit above → AllByRecursion Fit below → NoLater (time d s (x ∷ above) below) (time d s above below)
  pub drop_below : (d : D) (s x : Stream) (above below : List Stream) → Own (price d) s → Fit x → AllByRecursion Fit above → AllByRecursion Fit below → NoLater (time d s above (x ∷ below)) (time d s above below)
  pub move_down : (d : D) (s x : Stream) (above below : List Stream) → Own (price d) s → Fit x → AllByRecursion Fit above → AllByRecursion Fit below → NoLater (time d s (x ∷ above) below) (time d s above (x ∷ below))
