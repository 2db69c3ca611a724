-- What the tables keep after a change. Assumes nothing.
use Rattle.std.proofs.Common.{◌≡◌, ℕ, suc, ◌+◌, ◌<◌, ◌≤◌, ◌-◌, max, true, false, List, [], ◌∷◌, ◌++◌, map, length, get_or, set, sym, ap, ◌∙◌, subst₂, ap₂, ⊎_elim, arith}
use Rattle.std.specs.List.{remove}
use Rattle.std.proofs.lemmas.List.{get_or_default}
use Rattle.std.proofs.lemmas.Bool.{cases_lt, cond-true, cond-false}
use Rattle.frames.specs.declared.row.Row.{Row}
use Rattle.signals.specs.declared.signal.Signal.{Signal}
use Rattle.signals.specs.declared.signal.Entry.{Entry}
use Rattle.signals.specs.Riders.{riders, any_in}
use Rattle.signals.specs.Rows.{row_by}
use Rattle.packing.specs.declared.tables.Tables.{Tables}
use Rattle.packing.specs.Holds.{held}
use Rattle.packing.specs.Laws.{Placeable}
use Rattle.packing.specs.Packings.{Packing, packed, rows_of, placed, lower, taken_out}
use Rattle.packing.specs.Sound.{sound}
use Rattle.packing.specs.Tables.{listed}
use Rattle.packing.proofs.Placing.{placed_sound}
use Rattle.packing.proofs.Rowed.{rows_long, rows_joined, rows_opened}
use Rattle.packing.proofs.Sounds.{Sound, to_sound, from_sound}
use Rattle.packing.proofs.TakenOut.{gone, gone_below, fill_left, rows_left, rows_moved, taken_sound}

-- signals and rows that are those of a packing
pub record Kept (p : Packing) (es : List Entry) (rows : List Row) : Type 0 where
  pub is : packed es (length rows) ≡ p
  pub ok : sound (packed es (length rows)) ≡ true
  pub kept : rows ≡ rows_of es (length rows)

kept_by : (p : Packing) → Sound p → (es : List Entry) (n : ℕ) (rows : List Row) → packed es n ≡ p → rows ≡ rows_of es n → Kept p es rows
kept_by p h es n rows is given =
    let long : length rows ≡ n = ap length given ∙ rows_long es n in
    let whole : packed es (length rows) ≡ p = ap (packed es) long ∙ is in
    record { is = whole; ok = ap sound whole ∙ from_sound p h; kept = given ∙ ap (rows_of es) (sym long) }

-- a signal was put in
module _ (old : Tables) (s : Signal) (n : ℕ) (may : Placeable (held old) s n) (es : List Entry) (rows : List Row) (r : Row)
    (list : es ≡ listed old.signals ++ (record { signal = s; frame = n } ∷ [])) (e : r ≡ row_by (riders n (listed old.signals) ++ (s ∷ []))) where
  abbrev frames : ℕ
  frames = length old.rows.items

  by : (m : ℕ) → m ≡ max frames (suc n) → rows ≡ rows_of (listed old.signals ++ (record { signal = s; frame = n } ∷ [])) m → Kept (placed (held old) s n) es rows
  unfolding placed
  by m is given =
      kept_by (placed (held old) s n) (placed_sound (held old) s n (to_sound _ old.ok) may) es m rows (ap₂ packed list is) (given ∙ ap (λ l. rows_of l m) (sym list))

  pub put_in : (n < frames → rows ≡ set old.rows.items n r) → (n ≡ frames → rows ≡ old.rows.items ++ (r ∷ [])) → Kept (placed (held old) s n) es rows
  put_in joins opens = ⊎_elim {C = Kept (placed (held old) s n) es rows}
      (λ l. by frames (omega arith) (joins l ∙ ap (λ rs. set rs n r) old.kept ∙ rows_joined (listed old.signals) frames s n r e l))
      (λ l. let q : n ≡ frames = omega (arith, may.near) in by (frames + 1) (omega arith) (opens q ∙ ap (λ rs. rs ++ (r ∷ [])) old.kept ∙ rows_opened (listed old.signals) frames s n r e q))
      (cases_lt n frames)

-- a signal was taken out
module _ (old : Tables) (i : ℕ) (pre : i < length (listed old.signals)) where
  abbrev p : Packing
  p = held old

  h : Sound p
  h = to_sound p old.ok

  out_by : (es : List Entry) (n : ℕ) (rows : List Row) → packed es n ≡ taken_out p i → rows ≡ rows_of es n → Kept (taken_out p i) es rows
  out_by = kept_by (taken_out p i) (taken_sound p i h pre)

  module _ (e : Entry) (rest : List Entry) (entry : e ≡ get_or (listed old.signals) i e) (list : rest ≡ remove (listed old.signals) i) where
    its : e.frame ≡ gone p i h pre
    its = ap (λ x. x.frame) (entry ∙ get_or_default (listed old.signals) i _ _ pre)

    pub out_below : (e.frame < length old.rows.items) × (length old.rows.items ≤ 96)
    out_below = (omega (arith, its, gone_below p i h pre), h.room)

    pub out_fill : (row_by (riders e.frame rest)).fill ≤ 64
    out_fill = subst₂ (λ k es. (row_by (riders k es)).fill ≤ 64) (sym its) (sym list) (fill_left p i h pre)

    pub stays : any_in e.frame rest ≡ true → (rows : List Row) → rows ≡ set old.rows.items e.frame (row_by (riders e.frame rest)) → Kept (taken_out p i) rest rows
    unfolding taken_out
    stays some rows given =
        out_by rest p.frames rows (ap (λ es. packed es p.frames) list ∙ sym (cond-true _ _ _ (sym (ap₂ any_in its list) ∙ some)))
        (given ∙ ap₂ (λ k es. set old.rows.items k (row_by (riders k es))) its list ∙ ap (λ rs. set rs (gone p i h pre) (row_by (riders (gone p i h pre) (remove (listed old.signals) i)))) old.kept ∙ rows_left p i h pre ∙ ap (λ es. rows_of es p.frames) (sym list))

    pub leaves : any_in e.frame rest ≡ false → (es : List Entry) → es ≡ map (lower e.frame) rest → (rows : List Row) → rows ≡ remove old.rows.items e.frame → Kept (taken_out p i) es rows
    unfolding taken_out
    leaves none es moved rows given =
        let none : any_in (gone p i h pre) (remove (listed old.signals) i) ≡ false = sym (ap₂ any_in its list) ∙ none in
        let at : es ≡ map (lower (gone p i h pre)) (remove (listed old.signals) i) = moved ∙ ap₂ (λ k l. map (lower k) l) its list in
        out_by es (p.frames - 1) rows (ap (λ l. packed l (p.frames - 1)) at ∙ sym (cond-false _ _ _ none))
        (given ∙ ap (remove old.rows.items) its ∙ ap (λ rs. remove rs (gone p i h pre)) old.kept ∙ rows_moved p i h pre none ∙ ap (λ l. rows_of l (p.frames - 1)) (sym at))
