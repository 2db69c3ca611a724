-- The places from the last to the first, in a table. Assumes nothing.
use Rattle.std.proofs.Common.{◌≡◌, ℕ, suc, ◌+◌, ◌-◌, ◌*◌, ◌<◌, ◌≤◌, Bool, true, false, List, [], ◌∷◌, length, get_or, set, Some, None, Option, sym, refl, ap, ◌∙◌, subst, arith, length-set}
use Rattle.shelf.specs.Picks.{Pick, Perm}
use Rattle.shelf.specs.Picks.Perm.{done, next}
use Rattle.timing.specs.Laws.{Laws}
use Rattle.shelf.specs.Numbers.{without}
use Rattle.timing.specs.Places.{by_number}
use Rattle.timing.specs.Places.{tested, above, below, row_at, is_above, is_below}
use Rattle.frames.specs.declared.row.Row.{Row}
use Rattle.domains.specs.declared.place.Place.{Place}
use Rattle.domains.specs.declared.place.Place.TheVariants.{Above, Below}
use Rattle.shelf.proofs.Numbering.{chosen_apart, chosen_away, chosen_in, chosen_lies, chosen_most, chosen_out, pick_is}
use Rattle.shelf.proofs.Perms.{pick_length}
use Rattle.ordering.specs.Orders.{found, examined, at_place, greedy, examinations}
use Rattle.ordering.proofs.Greedy.{found_some, examined_most}
use Rattle.ordering.proofs.Records.{laws_by_number}
use Rattle.ordering.proofs.Agreeing.{found_same, examined_same}

above_not_below : (x : Place) → is_above x ≡ true → is_below x ≡ false
above_not_below x e = grind arith

-- left places are to be given, n examinations are made, and bs are the frames placed
pub record Placing (t : Row → List Row → List Row → Bool) (rows : List Row) (us : List ℕ) (count : ℕ) (ps : List Place) (bs : List ℕ) (left n : ℕ) : Type 0 where
  pub long : length ps ≡ length rows
  pub fits : length rows ≤ 96
  pub whole : length bs + left ≡ count
  pub most : count ≤ 96
  pub free : length (above ps) ≡ left
  pub under : Perm (below ps) bs
  pub same : greedy (by_number t (row_at rows)) count us [] ≡ greedy (by_number t (row_at rows)) left (above ps) bs
  pub tried : examinations (by_number t (row_at rows)) count us [] ≡ n + examinations (by_number t (row_at rows)) left (above ps) bs
  pub few : n + 96 * left ≤ 9216

pub frame_within : (p : ℕ → Bool) (ps : List Place) (f : ℕ) → found p (above ps) ≡ Some f → f < length ps
frame_within p ps f e = (chosen_lies is_above ps Above (found_some p (above ps) f e).1).0

pub placing_none : (t : Row → List Row → List Row → Bool) (rows : List Row) (ps : List Place) (count : ℕ) → length ps ≡ length rows → length rows ≤ 96 → length (above ps) ≡ count → below ps ≡ [] → Placing t rows (above ps) count ps [] count 0
placing_none t rows ps count a b c d =
    let most : count ≤ 96 = omega (arith, chosen_most is_above 0 ps) in
    record {
      long = a;
      fits = b;
      whole = omega arith;
      most = most;
      free = c;
      under = rw d done;
      same = refl;
      tried = omega arith;
      few = omega arith;
    }

module _ {t : Row → List Row → List Row → Bool} (laws : Laws t) (rows : List Row) (ps : List Place) where
  -- the table's question is the one of the greedy choice
  tie : (ls : List ℕ) → Perm (below ps) ls → (x : ℕ) (r : List ℕ) → Pick x (above ps) r → tested t rows ps x ≡ at_place (by_number t (row_at rows)) (above ps) ls x
  tie ls p x r k =
      let h = chosen_lies is_above ps Above k in
      let w = chosen_away is_below x ps Above (above_not_below (get_or ps x Above) h.1) h.0 in
      (laws_by_number t (row_at rows) laws).below x (without x (above ps)) (without x (below ps)) ls (subst (λ l. Perm l ls) (sym w) p)

module _ {t : Row → List Row → List Row → Bool} (laws : Laws t) {rows : List Row} {us : List ℕ} {count : ℕ} {ps : List Place} {bs : List ℕ} {m n : ℕ} (h : Placing t rows us count ps bs (suc m) n) where
  found_here : found (tested t rows ps) (above ps) ≡ found (at_place (by_number t (row_at rows)) (above ps) bs) (above ps)
  found_here = found_same (tested t rows ps) (at_place (by_number t (row_at rows)) (above ps) bs) (above ps) (tie laws rows ps bs h.under)

  examined_here : examined (tested t rows ps) (above ps) ≡ examined (at_place (by_number t (row_at rows)) (above ps) bs) (above ps)
  examined_here = examined_same (tested t rows ps) (at_place (by_number t (row_at rows)) (above ps) bs) (above ps) (tie laws rows ps bs h.under)

  placing_some : (f : ℕ) → found (tested t rows ps) (above ps) ≡ Some f → Placing t rows us count (set ps f Below) (f ∷ bs) m (n + examined (tested t rows ps) (above ps))
  placing_some f e =
      let t' = by_number t (row_at rows) in
      let s = found_some (tested t rows ps) (above ps) f e in
      let l = chosen_lies is_above ps Above s.1 in
      let z : 0 + f ≡ f = omega arith in
      let w : above (set ps f Below) ≡ without f (above ps) = chosen_out is_above 0 f ps Below refl l.0 ∙ ap (λ x. without x (above ps)) z in
      let b : Pick f (below (set ps f Below)) (below ps) = subst (λ x. Pick x (below (set ps f Below)) (below ps)) z (chosen_in is_below 0 f ps Below Above refl (above_not_below (get_or ps f Above) l.1) l.0) in
      let k = sym found_here ∙ e in
      let same : greedy t' count us [] ≡ greedy t' m (without f (above ps)) (f ∷ bs) = h.same ∙ ap (λ (q : Option ℕ). elim q [ None ↦ None | Some x ↦ greedy t' m (without x (above ps)) (x ∷ bs) ]) k in
      let tried : examinations t' (suc m) (above ps) bs ≡ examined (tested t rows ps) (above ps) + examinations t' m (without f (above ps)) (f ∷ bs) =
      ap (λ (q : Option ℕ). examined (at_place t' (above ps) bs) (above ps) + elim q [ None ↦ 0 | Some x ↦ examinations t' m (without x (above ps)) (x ∷ bs) ]) k ∙ ap (λ x. x + examinations t' m (without f (above ps)) (f ∷ bs)) (sym examined_here) in
      record {
        long = length-set ps f Below ∙ h.long;
        fits = h.fits;
        whole = omega (arith, h.whole);
        most = h.most;
        free = omega (arith, ap length w, ap length (pick_is s.1 (chosen_apart is_above 0 ps)), pick_length s.1, h.free);
        under = next b h.under;
        same = rw w same;
        tried = rw w (omega (arith, h.tried, tried));
        few = omega (arith, h.few, h.free, h.whole, h.most, examined_most (tested t rows ps) (above ps));
      }

  placing_stuck : found (tested t rows ps) (above ps) ≡ None → greedy (by_number t (row_at rows)) count us [] ≡ None
  placing_stuck e = h.same ∙ ap (λ (q : Option ℕ). elim q [ None ↦ None | Some x ↦ greedy (by_number t (row_at rows)) m (without x (above ps)) (x ∷ bs) ]) (sym found_here ∙ e)

-- as the loop has it: there is a place for each frame that is not yet placed
module _ {t : Row → List Row → List Row → Bool} {rows : List Row} {us : List ℕ} {count : ℕ} {ps : List Place} {bs : List ℕ} {n : ℕ} (h : Placing t rows us count ps bs (count - length bs) n) where
  pub placing_few : length bs < count → n + examined (tested t rows ps) (above ps) ≤ 9216
  placing_few l = omega (arith, h.few, h.free, h.whole, h.most, examined_most (tested t rows ps) (above ps))

  module _ (laws : Laws t) (l : length bs < count) where
    more : Placing t rows us count ps bs (suc (count - suc (length bs))) n
    more = let k : count - length bs ≡ suc (count - suc (length bs)) = omega arith in subst (λ x. Placing t rows us count ps bs x n) k h

    pub placing_more : (f : ℕ) → found (tested t rows ps) (above ps) ≡ Some f → Placing t rows us count (set ps f Below) (f ∷ bs) (count - suc (length bs)) (n + examined (tested t rows ps) (above ps))
    placing_more f e = placing_some laws more f e

    pub placing_end : found (tested t rows ps) (above ps) ≡ None → greedy (by_number t (row_at rows)) count us [] ≡ None
    placing_end e = placing_stuck laws more e
