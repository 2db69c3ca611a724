-- A packing, one signal more, and one out. Assumes nothing.
use Rattle.std.specs.Prelude.{ℕ, suc, ◌-◌, max, cond, List, [], ◌∷◌, ◌++◌, map, Some, None, Option, nat_lt, slice_index_or}
use Rattle.std.specs.List.{remove, range_with_len}
use Rattle.frames.specs.declared.row.Row.{Row}
use Rattle.signals.specs.declared.signal.Signal.{Signal}
use Rattle.signals.specs.declared.signal.Entry.{Entry}
use Rattle.signals.specs.Names.{place_of, no_entry}
use Rattle.signals.specs.Riders.{riders, any_in}
use Rattle.signals.specs.Rows.{row_by}
use Rattle.weights.specs.Weights.{rows_weight}

-- the signals in order of entry, each with the number of its frame, and how many frames there are
pub record Packing : Type 0 where
  pub signals : List Entry
  pub frames : ℕ

abbrev pub packed : List Entry → ℕ → Packing
packed es n = record { signals = es; frames = n }

-- the row of frame n is what the signals in it give
abbrev pub row : Packing → ℕ → Row
row p n = row_by (riders n p.signals)

abbrev pub rows_of : List Entry → ℕ → List Row
rows_of es n = map (λ k. row_by (riders k es)) (range_with_len 0 n)

abbrev pub rows : Packing → List Row
rows p = rows_of p.signals p.frames

-- the sum over the frames, where cost k p is what a payload p costs in domain k
abbrev pub packing_weight : (ℕ → ℕ → ℕ) → Packing → ℕ
packing_weight cost p = rows_weight cost (rows p)

-- the signal in frame n, which is a new one where n is the number after the last
unfoldable pub placed : Packing → Signal → ℕ → Packing
placed p s n = packed (p.signals ++ (record { signal = s; frame = n } ∷ [])) (max p.frames (suc n))

-- the number of each frame once frame f is gone
abbrev pub lowered : ℕ → ℕ → ℕ
lowered f n = cond (nat_lt f n) (n - 1) n

abbrev pub lower : ℕ → Entry → Entry
lower f e = record { signal = e.signal; frame = lowered f e.frame }

-- a signal of frame f is out: where it was the last, the frame leaves the list and the later ones move up
abbrev pub closed_up : ℕ → List Entry → ℕ → Packing
closed_up f es n = cond (any_in f es) (packed es n) (packed (map (lower f) es) (n - 1))

-- without the signal at place i
unfoldable pub taken_out : Packing → ℕ → Packing
taken_out p i = closed_up (slice_index_or p.signals i no_entry).frame (remove p.signals i) p.frames

-- without the signal that has the name, where there is one
abbrev pub found_out : Packing → Option ℕ → Packing
found_out p None = p
found_out p (Some i) = taken_out p i

unfoldable pub withdrawn : Packing → ℕ → Packing
withdrawn p name = found_out p (place_of name 0 p.signals)
