-- The deletion filter in a table. Assumes nothing.
use Rattle.std.proofs.Common.{◌≡◌, ℕ, zero, suc, ◌+◌, ◌-◌, ◌<◌, ◌≤◌, Bool, true, false, ◌≢◌, List, [], ◌∷◌, length, get_or, take, drop, set, replicate, sym, refl, ap, ◌∙◌, arith, length-set, length-take, get_or-set_other, get_or-set_same, drop-set-lt, set-set}
use lib.Seq.{take-set-lt, set-get_or}
use Rattle.shelf.specs.Numbers.{without, numbers, chosen}
use Rattle.timing.specs.Places.{above, below, is_above, is_below}
use Rattle.domains.specs.Asked.{no_row}
use Rattle.frames.specs.declared.row.Row.{Row}
use Rattle.domains.specs.declared.place.Place.{Place}
use Rattle.domains.specs.declared.place.Place.TheVariants.{Above, Absent}
use Rattle.shelf.proofs.Numbering.{chosen_in, chosen_out, length_numbers}
use Rattle.shelf.proofs.Perms.{pick_length}
use Rattle.ordering.specs.Orders.{shrink}
use Rattle.shelf.proofs.Numbering.{chosen_take}

-- the frames below i are done with, and size are kept
pub record Dropping (ok : List ℕ → Bool) (rows : List Row) (i size : ℕ) (kept : List Place) : Type 0 where
  pub wide : length kept ≡ 96
  pub fits : length rows ≤ 96
  pub same : shrink ok (numbers 0 rows) (numbers 0 rows) ≡ shrink ok (numbers i (drop i rows)) (above (take (length rows) kept))
  pub count : length (above (take (length rows) kept)) ≡ size
  pub none : below (take (length rows) kept) ≡ []
  pub tail : drop (length rows) kept ≡ drop (length rows) (replicate 96 Above)
  pub later : (k : ℕ) → i ≤ k → is_above (get_or (take (length rows) kept) k Above) ≡ true

pub all_above : (i m : ℕ) (rows : List Row) → length rows ≤ m → chosen is_above i (take (length rows) (replicate m Above)) ≡ numbers i rows
all_above i m [] l = refl
all_above i zero (r ∷ rows) l = absurd (omega arith)
all_above i (suc m) (r ∷ rows) l = ap (λ x. i ∷ x) (all_above (i + 1) m rows (omega arith))

pub none_below : (i n m : ℕ) → chosen is_below i (take n (replicate m Above)) ≡ []
none_below i zero m = refl
none_below i (suc n) zero = refl
none_below i (suc n) (suc m) = none_below (i + 1) n m

read_above : (n m k : ℕ) → is_above (get_or (take n (replicate m Above)) k Above) ≡ true
read_above zero m k = refl
read_above (suc n) zero k = refl
read_above (suc n) (suc m) zero = refl
read_above (suc n) (suc m) (suc k) = read_above n m k

pub dropping_none : (ok : List ℕ → Bool) (rows : List Row) → length rows ≤ 96 → Dropping ok rows 0 (length rows) (replicate 96 Above)
dropping_none ok rows l =
    let a = all_above 0 96 rows l in
    record {
      wide = refl;
      fits = l;
      same = ap (shrink ok (numbers 0 rows)) (sym a);
      count = ap length a ∙ length_numbers 0 rows;
      none = none_below 0 (length rows) 96;
      tail = refl;
      later = λ k h. read_above (length rows) 96 k;
    }

from_above : (x : Place) → is_above x ≡ true → x ≡ Above
from_above x e = grind arith

-- one frame more left out of the table
module _ {ok : List ℕ → Bool} {rows : List Row} {i size : ℕ} {kept : List Place} (h : Dropping ok rows i size kept) where
  module _ (l : i < length rows) where
    is_set : take (length rows) (set kept i Absent) ≡ set (take (length rows) kept) i Absent
    is_set = take-set-lt (length rows) kept i Absent l

    within : i < length (take (length rows) kept)
    within = simp length-take (omega (arith, h.wide, h.fits))

    pub trial_above : above (take (length rows) (set kept i Absent)) ≡ without i (above (take (length rows) kept))
    trial_above =
        let z : 0 + i ≡ i = omega arith in
        ap above is_set ∙ chosen_out is_above 0 i (take (length rows) kept) Absent refl within ∙ ap (λ x. without x (above (take (length rows) kept))) z

    pub trial_none : below (take (length rows) (set kept i Absent)) ≡ []
    trial_none = ap below is_set ∙ chosen_out is_below 0 i (take (length rows) kept) Absent refl within ∙ ap (without (0 + i)) h.none

    pub trial_count : length (above (take (length rows) (set kept i Absent))) + 1 ≡ size
    trial_count =
        let ps = take (length rows) kept in
        let qs = set ps i Absent in
        let gone : get_or qs i Above ≡ Absent = get_or-set_same ps i Absent Above within in
        let back : set qs i Above ≡ ps = set-set ps i Absent Above ∙ ap (set ps i) (sym (from_above (get_or ps i Above) (h.later i (omega arith)))) ∙ set-get_or ps i Above in
        let p = chosen_in is_above 0 i qs Above Above refl (ap is_above gone) (simp length-set within) in
        omega (arith, pick_length p, ap (λ x. length (above x)) back, ap (λ x. length (above x)) is_set, h.count)

    step : numbers i (drop i rows) ≡ i ∷ numbers (i + 1) (drop (i + 1) rows)
    step = chosen_take (λ _. true) rows i no_row l refl

    pub dropping_kept : ok (above (take (length rows) (set kept i Absent))) ≡ true → Dropping ok rows (i + 1) size kept
    dropping_kept e =
        let cs = above (take (length rows) kept) in
        let rest = numbers (i + 1) (drop (i + 1) rows) in
        let t : ok (without i cs) ≡ true = ap ok (sym trial_above) ∙ e in
        let s : shrink ok (i ∷ rest) cs ≡ shrink ok rest cs = simp t in
        record {
          wide = h.wide;
          fits = h.fits;
          count = h.count;
          none = h.none;
          tail = h.tail;
          same = h.same ∙ ap (λ x. shrink ok x cs) step ∙ s;
          later = λ k m. h.later k (omega arith);
        }

    pub dropping_out : ok (above (take (length rows) (set kept i Absent))) ≡ false → Dropping ok rows (i + 1) (size - 1) (set kept i Absent)
    dropping_out e =
        let cs = above (take (length rows) kept) in
        let rest = numbers (i + 1) (drop (i + 1) rows) in
        let t : ok (without i cs) ≡ false = ap ok (sym trial_above) ∙ e in
        let s : shrink ok (i ∷ rest) cs ≡ shrink ok rest (without i cs) = simp t in
        record {
          wide = length-set kept i Absent ∙ h.wide;
          fits = h.fits;
          same = h.same ∙ ap (λ x. shrink ok x cs) step ∙ s ∙ ap (shrink ok rest) (sym trial_above);
          count = omega (arith, trial_count);
          none = trial_none;
          tail = drop-set-lt (length rows) kept i Absent l ∙ h.tail;
          later = λ k m. let ne : k ≢ i = omega arith in ap (λ p. is_above (get_or p k Above)) is_set ∙ ap is_above (get_or-set_other (take (length rows) kept) i k Absent Above ne) ∙ h.later k (omega arith);
        }
