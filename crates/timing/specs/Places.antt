-- What a table of places says of the frames of a list. Assumes nothing.
use Rattle.std.specs.Prelude.{ℕ, Bool, true, false, List, map, slice_index_or}
use Rattle.frames.specs.declared.row.Row.{Row}
use Rattle.domains.specs.declared.place.Place.{Place}
use Rattle.domains.specs.declared.place.Place.TheVariants.{Above, Below, Absent}
use Rattle.domains.specs.Asked.{no_row}
use Rattle.shelf.specs.Numbers.{chosen, without}

abbrev pub is_above : Place → Bool
is_above Above = true
is_above Below = false
is_above Absent = false

abbrev pub is_below : Place → Bool
is_below Above = false
is_below Below = true
is_below Absent = false

-- the numbers of the frames above, and of those below
abbrev pub above : List Place → List ℕ
above places = chosen is_above 0 places

abbrev pub below : List Place → List ℕ
below places = chosen is_below 0 places

abbrev pub row_at : List Row → ℕ → Row
row_at rows n = slice_index_or rows n no_row

-- the rows of the frames above frame f, and of those below it
abbrev pub rows_above : List Row → List Place → ℕ → List Row
rows_above rows places f = map (row_at rows) (without f (above places))

abbrev pub rows_below : List Row → List Place → ℕ → List Row
rows_below rows places f = map (row_at rows) (without f (below places))

-- a test of frames, asked by their numbers
abbrev pub by_number : {F : Type 0} → (F → List F → List F → Bool) → (ℕ → F) → ℕ → List ℕ → List ℕ → Bool
by_number t row f us ls = t (row f) (map row us) (map row ls)

-- the test of frame f, with the others where the table has them
abbrev pub tested : (Row → List Row → List Row → Bool) → List Row → List Place → ℕ → Bool
tested t rows places f = by_number t (row_at rows) f (without f (above places)) (without f (below places))
