-- The streams of rows, if all are within the limits of a record. Assumes nothing.
use Rattle.std.specs.Prelude.{◌≡◌, ℕ, true, false, List, map, Some, None, Option}
use Rattle.frames.specs.declared.row.Row.{Row}
use Rattle.frames.specs.Limits.{lawful}
use Rattle.lists.specs.declared.list.ArrayList.{ArrayList}
use Rattle.lists.specs.Items.{items}
use Rattle.shelf.specs.Folds.{every}
use Rattle.streams.specs.declared.stream.Stream.{Stream}
use Rattle.kinds.specs.Rows.{stream_by}

abbrev pub Gathered : (ℕ → ℕ) → List Row → Option (ArrayList Stream 96) → Type 0
Gathered price rows (Some s) = (every lawful rows ≡ true) × (items s ≡ map (stream_by price) rows)
Gathered price rows None = every lawful rows ≡ false
