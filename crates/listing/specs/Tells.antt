-- What the listing of a plan tells, in the words of the subject. Assumes nothing.
use Rattle.std.specs.Prelude.{◌≡◌, ℕ, ◌^◌, ◌<◌, ◌≤◌, List, [], ◌∷◌, ◌++◌, length, filter}
use Rattle.std.specs.List.{AllZip, flat_map, range_with_len}
use Rattle.fields.specs.Fields.{AllFit}
use Rattle.fields.specs.Hex.{hex}
use Rattle.packing.specs.Packings.{Packing, row, rows}
use Rattle.shelf.specs.Numbers.{numbers}
use Rattle.shelf.specs.Picks.{Perm}
use Rattle.plan.specs.Banks.{Bank}
use Rattle.plan.specs.Closes.{figures, identifier_at, identifier_says, record_says}
use Rattle.plan.specs.Said.Said.{gives}
use Rattle.plan.specs.Stands.{Stands, among}
use Rattle.plan.specs.Stands.Stands.{nothing, order, conflict}
use Rattle.plan.specs.Subject.{Heard, OrderStands, ConflictStands}
use Rattle.listing.specs.Lines.{feed, row_widths, row_values, row_text, times_widths, times_text, domains_of, order_line, conflict_line}

-- the order, or the conflict, that stands is right
abbrev pub OrderRight : Bank → Packing → Stands → Type 0
OrderRight m p nothing = ⊥
OrderRight m p (order o) = OrderStands m p o
OrderRight m p (conflict cs) = ⊥

abbrev pub ConflictRight : Bank → Packing → Stands → Type 0
ConflictRight m p nothing = ⊥
ConflictRight m p (order o) = ⊥
ConflictRight m p (conflict cs) = ConflictStands m p cs

-- what the line tells of frame n of an order, with us before it and ls after it
pub record OrderLine (m : Bank) (p : Packing) (o us : List ℕ) (n : ℕ) (ls line : List ℕ) : Type 0 where
  -- what a planner reads of it: its identifier, its record, and for each domain of its set, lowest first, a time,
  -- which is within its deadline
  pub identified : identifier_says p (order o) n ≡ gives (identifier_at (length us) ∷ [])
  pub recorded : record_says p n ≡ gives (figures (row p n))
  pub times : List ℕ
  pub heard : AllZip (λ k t. (h : Heard m p o us n ls k) × (h.time ≡ t)) (domains_of (row p n).set) times
  -- the line has just these; so identifiers rise from line to line
  pub is : line ≡ hex 3 (identifier_at (length us)) ++ row_text (row p n) ++ times_text times ++ feed
  -- no number has more digits than its field
  pub identifier_fits : identifier_at (length us) < 16 ^ 3
  pub row_fits : AllFit row_widths (row_values (row p n))
  pub times_fit : AllFit (times_widths times) times
  pub short : length line ≤ 65

-- the listing of an order: a line for each frame of the plan, once, in order of priority
pub record OrderTold (m : Bank) (p : Packing) (o bytes : List ℕ) : Type 0 where
  pub once : Perm (numbers 0 (rows p)) o
  pub is : bytes ≡ flat_map (order_line m p (order o)) o
  pub lines : (us : List ℕ) (n : ℕ) (ls : List ℕ) → o ≡ us ++ (n ∷ ls) → OrderLine m p o us n ls (order_line m p (order o) n)
  pub short : length bytes ≤ 6240

-- the listing of a conflict: a line for each of its frames, in list order
pub record ConflictTold (p : Packing) (cs bytes : List ℕ) : Type 0 where
  pub in_list_order : cs ≡ filter (λ n. among n cs) (range_with_len 0 p.frames)
  pub is : bytes ≡ flat_map (conflict_line p) cs
  pub rows_fit : (n : ℕ) → n < p.frames → AllFit row_widths (row_values (row p n))
  pub lines_short : (n : ℕ) → length (conflict_line p n) ≤ 65
  pub short : length bytes ≤ 6240

abbrev pub Told : Bank → Packing → Stands → List ℕ → Type 0
Told m p nothing bytes = bytes ≡ []
Told m p (order o) bytes = OrderTold m p o bytes
Told m p (conflict cs) bytes = ConflictTold p cs bytes
