-- The table that one domain is told, and what it is asked by it. Assumes nothing.
use Rattle.std.proofs.Common.{◌≡◌, ℕ, suc, ◌+◌, ◌<◌, ◌≤◌, Bool, false, cond, not, ◌&&◌, eqb, leb, ltb, List, [], ◌∷◌, map, length, get_or, set, take, filter, None, Option, sym, subst, ⊎_elim, refl, get_or-set_same, get_or-set_other, ap, ◌∙◌, ap₂, add-zero, arith, length-take, get_or-take}
use Rattle.std.proofs.lemmas.Bool.{cases_lt, le-leb, lt-ltb}
use Rattle.frames.specs.declared.row.Row.{Row}
use Rattle.timing.specs.Carried.{carried}
use Rattle.domains.specs.declared.place.Place.{Place}
use Rattle.domains.specs.declared.place.Place.TheVariants.{Above, Below, Absent}
use Rattle.domains.specs.Asked.{same, stance, picked, standing, reply, asked, no_row}
use Rattle.shelf.specs.Numbers.{chosen, without}
use Rattle.timing.specs.Everywhere.{response_in}
use Rattle.timing.specs.Places.{is_above, is_below, row_at, rows_above, rows_below}

abbrev pub AtTold : ℕ → List Row → List Place → List Place → ℕ → Type 0
AtTold k rows ps out j = get_or out j Above ≡ cond (carried k (row_at rows j)) (get_or ps j Above) Absent

-- one frame more
pub told_more : (k : ℕ) (rows : List Row) (ps out : List Place) (i : ℕ) (x : Place) → i < length out → x ≡ cond (carried k (row_at rows i)) (get_or ps i Above) Absent → ((j : ℕ) → j < i → AtTold k rows ps out j)
    → (j : ℕ) → j < i + 1 → AtTold k rows ps (set out i x) j
told_more k rows ps out i x within here h j l =
    ⊎_elim {C = AtTold k rows ps (set out i x) j} (λ before. get_or-set_other out i j x Above (λ e. absurd (omega (arith, e, before))) ∙ h j before)
    (λ last. let e : i ≡ j = omega arith in subst (AtTold k rows ps (set out i x)) e (get_or-set_same out i x Above within ∙ here)) (cases_lt j i)

-- the numbers chosen in the masked table
chosen_told : (is : Place → Bool) → is Absent ≡ false → (q : ℕ → Bool) (i : ℕ) (ps ys : List Place) → length ys ≡ length ps → ((j : ℕ) → j < length ps → get_or ys j Above ≡ cond (q (i + j)) (get_or ps j Above) Absent) → chosen is i ys ≡ filter q (chosen is i ps)
chosen_told is o q i [] [] n h = refl
chosen_told is o q i [] (y ∷ ys) n h = absurd (omega arith)
chosen_told is o q i (p ∷ ps) [] n h = absurd (omega arith)
chosen_told is o q i (p ∷ ps) (y ∷ ys) n h =
    let ih = chosen_told is o q (i + 1) ps ys (omega arith) (λ j m. let e : i + suc j ≡ i + 1 + j = omega arith in h (suc j) (omega arith) ∙ ap (λ x. cond (q x) (get_or ps j Above) Absent) e) in
    let f : y ≡ cond (q i) p Absent = h 0 (omega arith) ∙ ap (λ x. cond (q x) p Absent) (add-zero i) in
    grind (arith, ih)

kept_comm : {X : Type 0} (p q : X → Bool) (xs : List X) → filter p (filter q xs) ≡ filter q (filter p xs)
kept_comm p q [] = refl
kept_comm p q (x ∷ xs) = grind (arith, kept_comm p q xs)

map_kept : {X Y : Type 0} (f : X → Y) (c : Y → Bool) (xs : List X) → map f (filter (λ j. c (f j)) xs) ≡ filter c (map f xs)
map_kept f c [] = refl
map_kept f c (x ∷ xs) = grind (arith, map_kept f c xs)

-- what the domain is told
pub told_is : (is : Place → Bool) → is Absent ≡ false → (k : ℕ) (rows : List Row) (ps ys : List Place) (f : ℕ) → length ys ≡ length ps → ((j : ℕ) → j < length ps → AtTold k rows ps ys j)
    → map (row_at rows) (without f (chosen is 0 ys)) ≡ filter (carried k) (map (row_at rows) (without f (chosen is 0 ps)))
told_is is o k rows ps ys f n h =
    let q : ℕ → Bool = λ j. carried k (row_at rows j) in
    let a : chosen is 0 ys ≡ filter q (chosen is 0 ps) = chosen_told is o q 0 ps ys n (λ j m. let e : j ≡ 0 + j = omega arith in h j m ∙ ap (λ x. cond (q x) (get_or ps j Above) Absent) e) in
    ap (λ l. map (row_at rows) (without f l)) a ∙ ap (map (row_at rows)) (kept_comm (λ j. not (eqb j f)) q (chosen is 0 ps)) ∙ map_kept (row_at rows) (carried k) (without f (chosen is 0 ps))

-- the rows that stand at a place, by number
picked_chosen : (is : Place → Bool) (get : ℕ → Row) (f i : ℕ) (t : ℕ → Bool) (xs : List Row) (ps : List Place) → length ps ≡ length xs
    → ((j : ℕ) → j < length xs → t j ≡ cond (eqb (i + j) f) false (is (get_or ps j Absent))) → ((j : ℕ) → j < length xs → get (i + j) ≡ get_or xs j no_row)
    → picked t xs ≡ map get (without f (chosen is i ps))
picked_chosen is get f i t [] [] n h g = refl
picked_chosen is get f i t [] (p ∷ ps) n h g = absurd (omega arith)
picked_chosen is get f i t (x ∷ xs) [] n h g = absurd (omega arith)
picked_chosen is get f i t (x ∷ xs) (p ∷ ps) n h g =
    let ih = picked_chosen is get f (i + 1) (λ j. t (suc j)) xs ps (omega arith)
    (λ j l. let e : i + suc j ≡ i + 1 + j = omega arith in h (suc j) (omega arith) ∙ ap (λ k. cond (eqb k f) false (is (get_or ps j Absent))) e)
    (λ j l. let e : i + 1 + j ≡ i + suc j = omega arith in ap get e ∙ g (suc j) (omega arith)) in
    let test = h 0 (omega arith) in
    let row = g 0 (omega arith) in
    grind (arith, ih)

module _ (rows : List Row) (ps : List Place) (f : ℕ) (long : length ps ≡ length rows) where
  pub standing_above : standing Above rows ps f ≡ rows_above rows ps f
  unfolding standing
  standing_above = picked_chosen is_above (row_at rows) f 0 (λ i. same (stance ps f i) Above) rows ps long (λ j l. grind arith) (λ j l. grind arith)

  pub standing_below : standing Below rows ps f ≡ rows_below rows ps f
  unfolding standing
  standing_below = picked_chosen is_below (row_at rows) f 0 (λ i. same (stance ps f i) Below) rows ps long (λ j l. grind arith) (λ j l. grind arith)

  asked_is : (response : Row → List Row → List Row → Option ℕ) → length rows ≤ 96 → f < length rows → asked response rows ps f ≡ reply response (row_at rows f) (rows_above rows ps f) (rows_below rows ps f)
  unfolding asked
  asked_is response few within =
      let x = standing_above in
      let y = standing_below in
      let p = le-leb (length rows) 96 few in
      let q = lt-ltb f (length rows) within in
      simp (p, q, x, y)

-- places past the rows tell nothing
picked_same : {X : Type 0} (t u : ℕ → Bool) (xs : List X) → ((j : ℕ) → j < length xs → t j ≡ u j) → picked t xs ≡ picked u xs
picked_same t u [] h = refl
picked_same t u (x ∷ xs) h =
    ap₂ (λ b l. cond b (x ∷ l) l) (h 0 (omega arith)) (picked_same (λ j. t (suc j)) (λ j. u (suc j)) xs (λ j l. h (suc j) (omega arith)))

module _ (rows : List Row) (ps : List Place) (f : ℕ) where
  standing_front : (p : Place) → standing p rows ps f ≡ standing p rows (take (length rows) ps) f
  unfolding standing
  standing_front p =
      picked_same (λ j. same (stance ps f j) p) (λ j. same (stance (take (length rows) ps) f j) p) rows (λ j l. ap (λ q. same (cond (eqb j f) Absent q) p) (sym (get_or-take (length rows) ps j Absent l)))

  asked_front : (response : Row → List Row → List Row → Option ℕ) → asked response rows ps f ≡ asked response rows (take (length rows) ps) f
  unfolding asked
  asked_front response =
      ap₂ (λ us ls. cond (leb (length rows) 96 && ltb f (length rows)) (reply response (row_at rows f) us ls) None) (standing_front Above) (standing_front Below)

-- what domain k answers by the table that it is told
pub told_response : (response : ℕ → Row → List Row → List Row → Option ℕ) (k : ℕ) (rows : List Row) (ps out : List Place) (f : ℕ) → length ps ≡ length rows → length out ≡ 96 → length rows ≤ 96 → f < length rows → ((j : ℕ) → j < length rows → AtTold k rows ps out j)
    → asked (response k) rows out f ≡ response_in response k (row_at rows f) (rows_above rows ps f) (rows_below rows ps f)
told_response response k rows ps out f long wide few within h =
    let ys = take (length rows) out in
    let n : length ys ≡ length ps = simp length-take (omega arith) in
    let m : (j : ℕ) → j < length ps → AtTold k rows ps ys j = λ j l. get_or-take (length rows) out j Above (omega arith) ∙ h j (omega arith) in
    asked_front rows out f (response k)
    ∙ asked_is rows ys f (n ∙ long) (response k) few within
    ∙ ap₂ (λ us ls. reply (response k) (row_at rows f) us ls) (told_is is_above refl k rows ps ys f n m) (told_is is_below refl k rows ps ys f n m)
