-- What a look at a list finds. Assumes nothing.
use Rattle.std.specs.Prelude.{◌≡◌, ℕ, List, map, Some, None, Option, slice_index_or}
use Rattle.std.specs.List.{AllByRecursion}
use Rattle.frames.specs.declared.row.Row.{Row}
use Rattle.frames.specs.Limits.{Lawful}
use Rattle.domains.specs.declared.place.Place.{Place}
use Rattle.domains.specs.declared.place.Place.TheVariants.{Above, Below}
use Rattle.domains.specs.Asked.{standing, asked, no_row}
use Rattle.lists.specs.Items.{items}
use Rattle.kinds.specs.declared.view.Streams.{Streams}
use Rattle.kinds.specs.Rows.{stream_by}

-- each row told of is within the limits, the streams are theirs, and a question is answered by them
pub record Seen (price : ℕ → ℕ) (rows : List Row) (places : List Place) (f : ℕ) (v : Streams) : Type 0 where
  pub lawful_own : Lawful (slice_index_or rows f no_row)
  pub lawful_above : AllByRecursion Lawful (standing Above rows places f)
  pub lawful_below : AllByRecursion Lawful (standing Below rows places f)
  pub own_is : v.own ≡ stream_by price (slice_index_or rows f no_row)
  pub above_is : items v.above ≡ map (stream_by price) (standing Above rows places f)
  pub below_is : items v.below ≡ map (stream_by price) (standing Below rows places f)
  pub answered : (response : Row → List Row → List Row → Option ℕ) → asked response rows places f ≡ response (slice_index_or rows f no_row) (standing Above rows places f) (standing Below rows places f)

-- where nothing is seen, every question gets none
abbrev pub Looked : (ℕ → ℕ) → List Row → List Place → ℕ → Option Streams → Type 0
Looked price rows places f (Some v) = Seen price rows places f v
Looked price rows places f None = (response : Row → List Row → List Row → Option ℕ) → None ≡ asked response rows places f
