-- Frames in order of priority. Assumes nothing.
use Rattle.std.specs.Prelude.{ℕ, suc, cond, ◌&&◌, List, length, take, drop, None, filter, Option, nat_le, nat_lt, slice_index_or}
use Rattle.frames.specs.declared.row.Row.{Row}
use Rattle.domains.specs.Asked.{reply, no_row}
use Rattle.timing.specs.Carried.{carried}

-- domain k is told of the frames that it carries: those before f are above it, those after it below
unfoldable pub response_at : (ℕ → Row → List Row → List Row → Option ℕ) → ℕ → List Row → ℕ → Option ℕ
response_at response k rows f =
    cond (nat_le (length rows) 96 && nat_lt f (length rows)) (cond (carried k (slice_index_or rows f no_row)) (reply (response k) (slice_index_or rows f no_row) (filter (carried k) (take f rows)) (filter (carried k) (drop (suc f) rows))) None) None
