-- The theorems on rows. Assumes nothing.
use Rattle.std.proofs.Common.{◌≡◌, ℕ, ◌+◌, Bool, true, List, [], map, length, get_or, Some, None, Option, sym, ap, subst, arith}
use Rattle.shelf.specs.Picks.{Perm}
use Rattle.timing.specs.Laws.{Laws}
use Rattle.shelf.specs.Numbers.{numbers}
use Rattle.timing.specs.Places.{by_number}
use Rattle.shelf.proofs.Numbering.{chosen_apart, length_numbers, map_numbers}
use Rattle.ordering.specs.Orders.{Meets, HasOrder, at_row, order_of, conflict_of, IsConflict}
use Rattle.shelf.proofs.Perms.{perm_map, perm_trans, reversed}
use Rattle.ordering.proofs.Audsley.{Ordered, has_order, from_order, meets_fits}
use Rattle.ordering.proofs.Greedy.{Right, greedy_right}
use Rattle.ordering.proofs.Deletion.{conflict_right, shrink_part}
use Rattle.ordering.proofs.Records.{laws_by_number, ordered_to, ordered_back, fits_to, map_onto}

-- an order has each frame number once and meets every deadline; where none is given there is none
abbrev pub Judged : {F : Type 0} → (F → List F → List F → Bool) → List F → F → Option (List ℕ) → Type 0
Judged t rows d None = HasOrder t rows → ⊥
Judged t rows d (Some o) = Perm (numbers 0 rows) o × Meets t (map (at_row rows d) o)

module _ {F : Type 0} {t : F → List F → List F → Bool} (laws : Laws t) (rows : List F) (d : F) where
  rows_are : map (at_row rows d) (numbers 0 rows) ≡ rows
  rows_are = map_numbers (at_row rows d) d 0 rows (λ k l. let e : 0 + k ≡ k = omega arith in ap (λ j. get_or rows j d) e)

  none_of : (Ordered (by_number t (at_row rows d)) (numbers 0 rows) [] → ⊥) → HasOrder t rows → ⊥
  none_of n o = n (ordered_back t (at_row rows d) (numbers 0 rows) (subst (λ l. Ordered t l []) (sym rows_are) (from_order laws o)))

  judged : (o : Option (List ℕ)) → Right (by_number t (at_row rows d)) (numbers 0 rows) [] o → Judged t rows d o
  judged None r = none_of r
  judged (Some o) r =
      let row = at_row rows d in (
        subst (λ l. Perm (numbers 0 rows) l) (sym r.3) (perm_trans r.1 (reversed r.0)),
        subst (λ l. Meets t (map row l)) (sym r.3) (subst (λ l. Meets t l) (sym (map_onto t row r.0 [])) (meets_fits laws (map row r.0) (fits_to t row r.0 [] r.2))),
      )

  pub order_right : Judged t rows d (order_of t rows d)
  order_right = judged (order_of t rows d) (greedy_right (laws_by_number t (at_row rows d) laws) (length rows) (numbers 0 rows) [] (chosen_apart (λ _. true) 0 rows) (length_numbers 0 rows))

  pub judged_some : (o : List ℕ) → Judged t rows d (Some o) → HasOrder t rows
  judged_some o j = (map (at_row rows d) o, subst (λ l. Perm l (map (at_row rows d) o)) rows_are (perm_map (at_row rows d) j.0), j.1)

  pub conflict_is : (HasOrder t rows → ⊥) → IsConflict t rows d (conflict_of t rows d)
  conflict_is n =
      let row = at_row rows d in
      let by = laws_by_number t row laws in
      let h = conflict_right by (numbers 0 rows) (chosen_apart (λ _. true) 0 rows) (λ o. n (has_order laws (subst (λ l. Ordered t l []) rows_are (ordered_to t row (numbers 0 rows) o)))) in
      record {
        within = shrink_part by (numbers 0 rows) (numbers 0 rows);
        none = λ o. h.0 (ordered_back t row (conflict_of t rows d) (from_order laws o));
        each = λ x r p. has_order laws (ordered_to t row r (h.1 x r p));
      }
