-- What the public call answers. Assumes nothing.
use Rattle.std.specs.Prelude.{◌≡◌, ℕ, ◌+◌, ◌*◌, ◌/◌, ◌≤◌, Bool, List, [], map, length, take, drop, replicate, Some, None, Ok, Err, Option, Result}
use Rattle.lists.specs.Items.{items}
use Rattle.shelf.specs.Picks.{Perm}
use Rattle.shelf.specs.Numbers.{numbers}
use Rattle.timing.specs.Places.{above, row_at}
use Rattle.domains.specs.Asked.{no_row}
use Rattle.frames.specs.declared.row.Row.{Row}
use Rattle.domains.specs.declared.place.Place.TheVariants.{Above}
use Rattle.ordering.specs.Orders.{Meets, HasOrder, greedy, examinations, IsConflict, order_of, examinations_of, conflict_of}
use Rattle.ordering.specs.declared.orders.Placement.{Placement}
use Rattle.ordering.specs.declared.conflicts.Conflict.{Conflict}

-- what a try at all places gives: the frames in order, with the number of examinations
abbrev pub Arranged : (ℕ → List ℕ → List ℕ → Bool) → List ℕ → ℕ → Option Placement → Type 0
Arranged t us count None = greedy t count us [] ≡ None
Arranged t us count (Some p) =
    (greedy t count us [] ≡ Some (items p.numbers)) × (p.examinations ≡ examinations t count us [])

pub record Placed (t : Row → List Row → List Row → Bool) (rows : List Row) (p : Placement) : Type 0 where
  pub is : order_of t rows no_row ≡ Some (items p.numbers)
  pub count : length (items p.numbers) ≡ length rows
  pub examinations : p.examinations ≡ examinations_of t rows no_row
  pub few : p.examinations ≤ length rows * (length rows + 1) / 2
  pub once : Perm (numbers 0 rows) (items p.numbers)
  pub meets : Meets t (map (row_at rows) (items p.numbers))

pub record Refused (t : Row → List Row → List Row → Bool) (rows : List Row) (c : Conflict) : Type 0 where
  pub none : order_of t rows no_row ≡ None
  pub never : HasOrder t rows → ⊥
  pub is : above (take (length rows) c.table) ≡ conflict_of t rows no_row
  pub rest : drop (length rows) c.table ≡ drop (length rows) (replicate 96 Above)
  pub size : c.size ≡ length (conflict_of t rows no_row)
  pub clash : IsConflict t rows no_row (conflict_of t rows no_row)

abbrev pub Answered : (Row → List Row → List Row → Bool) → List Row → Result Placement Conflict → Type 0
Answered t rows (Ok p) = Placed t rows p
Answered t rows (Err c) = Refused t rows c
