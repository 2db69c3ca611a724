-- What the public call owes, from what its parts give. Assumes nothing.
use Rattle.std.proofs.Common.{◌≡◌, ◌≤◌, Bool, true, List, [], length, take, drop, replicate, Some, None, Option, sym, ap, ◌∙◌, subst, arith}
use Rattle.timing.specs.Laws.{Laws}
use Rattle.shelf.specs.Numbers.{numbers}
use Rattle.timing.specs.Places.{by_number}
use Rattle.timing.specs.Places.{above, below, row_at}
use Rattle.domains.specs.Asked.{no_row}
use Rattle.frames.specs.declared.row.Row.{Row}
use Rattle.domains.specs.declared.place.Place.TheVariants.{Above}
use Rattle.shelf.proofs.Numbering.{chosen_apart, length_numbers}
use Rattle.ordering.specs.Orders.{HasOrder, conflict_of}
use Rattle.ordering.specs.Answers.{Arranged, Placed, Refused}
use Rattle.shelf.proofs.Perms.{perm_length}
use Rattle.ordering.specs.declared.orders.Placement.{Placement}
use Rattle.ordering.specs.declared.conflicts.Conflict.{Conflict}
use Rattle.ordering.proofs.Greedy.{examinations_most}
use Rattle.ordering.proofs.Claims.{Judged, order_right, conflict_is}
use Rattle.ordering.proofs.Dropping.{all_above, none_below}

module _ (rows : List Row) (few : length rows ≤ 96) where
  pub fresh_above : above (take (length rows) (replicate 96 Above)) ≡ numbers 0 rows
  fresh_above = all_above 0 96 rows few

  pub fresh_count : length (above (take (length rows) (replicate 96 Above))) ≡ length rows
  fresh_count = ap length fresh_above ∙ length_numbers 0 rows

  pub fresh_below : below (take (length rows) (replicate 96 Above)) ≡ []
  fresh_below = none_below 0 (length rows) 96

  module _ {t : Row → List Row → List Row → Bool} (laws : Laws t) where
    from : (o : Option Placement) → Arranged (by_number t (row_at rows)) (above (take (length rows) (replicate 96 Above))) (length rows) o → Arranged (by_number t (row_at rows)) (numbers 0 rows) (length rows) o
    from o a = subst (λ us. Arranged (by_number t (row_at rows)) us (length rows) o) fresh_above a

    pub placed : (p : Placement) → Arranged (by_number t (row_at rows)) (above (take (length rows) (replicate 96 Above))) (length rows) (Some p) → Placed t rows p
    placed p a =
        let h = from (Some p) a in
        let j = subst (Judged t rows no_row) h.0 (order_right laws rows no_row) in
        record {
          is = h.0;
          count = sym (perm_length j.0) ∙ length_numbers 0 rows;
          examinations = h.1;
          few = omega (arith, h.1, examinations_most (by_number t (row_at rows)) (length rows) (numbers 0 rows) (chosen_apart (λ _. true) 0 rows) (length_numbers 0 rows));
          once = j.0;
          meets = j.1;
        }

    pub refused : (c : Conflict) → Arranged (by_number t (row_at rows)) (above (take (length rows) (replicate 96 Above))) (length rows) None
        → above (take (length rows) c.table) ≡ conflict_of t rows no_row → drop (length rows) c.table ≡ drop (length rows) (replicate 96 Above) → c.size ≡ length (conflict_of t rows no_row) → Refused t rows c
    refused c a e r s =
        let h = from None a in
        let never : HasOrder t rows → ⊥ = subst (Judged t rows no_row) h (order_right laws rows no_row) in
        record { none = h; never = never; is = e; rest = r; size = s; clash = conflict_is laws rows no_row never }
