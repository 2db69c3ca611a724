-- The rows that a list of signals gives, with one signal more. Assumes nothing.
use Rattle.std.proofs.Common.{◌≡◌, ℕ, ◌+◌, ◌-◌, ◌<◌, ◌≤◌, List, [], ◌∷◌, ◌++◌, length, get_or, set, sym, refl, ap, ap₂, ◌∙◌, ⊎_elim, zero-add, arith}
use Rattle.std.proofs.lemmas.List.{length-set, get_or-set_same, get_or-set_other}
use Rattle.std.proofs.lemmas.List.FromFn.{length-map-range_with_len, get_or-map-range_with_len, map-range_with_len_more, fill_by_all}
use Rattle.std.proofs.lemmas.List.Edits.{length-remove, get_or-remove_below, get_or-remove_above}
use Rattle.std.proofs.lemmas.Bool.{cases_eq, cases_lt}
use Rattle.std.specs.List.{remove}
use Rattle.frames.specs.declared.row.Row.{Row}
use Rattle.domains.specs.Asked.{no_row}
use Rattle.signals.specs.declared.signal.Signal.{Signal}
use Rattle.signals.specs.declared.signal.Entry.{Entry}
use Rattle.signals.specs.Riders.{riders}
use Rattle.signals.specs.Rows.{row_by}
use Rattle.signals.proofs.Riding.{riders_push, riders_push_other}
use Rattle.packing.specs.Packings.{rows_of}

module _ (es : List Entry) (frames : ℕ) where
  pub rows_long : length (rows_of es frames) ≡ frames
  rows_long = length-map-range_with_len (λ k. row_by (riders k es)) 0 frames

  pub row_at : (n : ℕ) (d : Row) → n < frames → get_or (rows_of es frames) n d ≡ row_by (riders n es)
  row_at n d h = get_or-map-range_with_len (λ k. row_by (riders k es)) 0 frames n n d h (zero-add n)

  -- one row is replaced, and the other frames have the riders that they had
  pub rows_set : (after : List Entry) (n : ℕ) (r : Row) → n < frames → r ≡ row_by (riders n after) → ((k : ℕ) → (k ≡ n → ⊥) → riders k after ≡ riders k es) → set (rows_of es frames) n r ≡ rows_of after frames
  rows_set after n r l here elsewhere =
      fill_by_all (λ k. row_by (riders k after)) (set (rows_of es frames) n r) frames no_row (length-set (rows_of es frames) n r ∙ rows_long)
      (λ k h. ⊎_elim {C = get_or (set (rows_of es frames) n r) k no_row ≡ row_by (riders k after)}
      (λ q. ap (λ i. get_or (set (rows_of es frames) n r) i no_row) q ∙ get_or-set_same (rows_of es frames) n r no_row (omega (arith, rows_long)) ∙ here ∙ ap (λ i. row_by (riders i after)) (sym q))
      (λ q. get_or-set_other (rows_of es frames) n k r no_row q ∙ row_at k no_row h ∙ sym (ap row_by (elsewhere k q)))
      (cases_eq k n))

  -- one row is out, and each later frame has the riders of the one after it
  pub rows_removed : (after : List Entry) (n : ℕ) → n < frames → ((k : ℕ) → k < n → riders k after ≡ riders k es) → ((k : ℕ) → n ≤ k → riders k after ≡ riders (k + 1) es) → remove (rows_of es frames) n ≡ rows_of after (frames - 1)
  rows_removed after n l below above =
      fill_by_all (λ k. row_by (riders k after)) (remove (rows_of es frames) n) (frames - 1) no_row (omega (arith, length-remove (rows_of es frames) n, rows_long))
      (λ k h. ⊎_elim {C = get_or (remove (rows_of es frames) n) k no_row ≡ row_by (riders k after)}
      (λ q. get_or-remove_below (rows_of es frames) n no_row k q (omega (arith, rows_long)) ∙ row_at k no_row (omega arith) ∙ sym (ap row_by (below k q)))
      (λ q. get_or-remove_above (rows_of es frames) n no_row k q (omega (arith, rows_long)) ∙ row_at (k + 1) no_row (omega arith) ∙ sym (ap row_by (above k q)))
      (cases_lt k n))

  module _ (s : Signal) (n : ℕ) (r : Row) (e : r ≡ row_by (riders n es ++ (s ∷ []))) where
    abbrev after : List Entry
    after = es ++ (record { signal = s; frame = n } ∷ [])

    here : r ≡ row_by (riders n after)
    here = e ∙ sym (ap row_by (riders_push n es (record { signal = s; frame = n }) refl))

    elsewhere : (k : ℕ) → (k ≡ n → ⊥) → riders k after ≡ riders k es
    elsewhere k ne = riders_push_other k es (record { signal = s; frame = n }) (λ q. ne (sym q))

    -- the signal goes to an old frame, and the row there is replaced
    pub rows_joined : n < frames → set (rows_of es frames) n r ≡ rows_of after frames
    rows_joined l = rows_set after n r l here elsewhere

    -- or to a new one, and a row comes to the end
    pub rows_opened : n ≡ frames → rows_of es frames ++ (r ∷ []) ≡ rows_of after (frames + 1)
    rows_opened q =
        ap₂ (λ rs x. rs ++ (x ∷ [])) (fill_by_all (λ k. row_by (riders k after)) (rows_of es frames) frames no_row rows_long (λ k h. row_at k no_row h ∙ sym (ap row_by (elsewhere k (λ p. omega arith))))) here
        ∙ sym (map-range_with_len_more (λ k. row_by (riders k after)) 0 frames n (omega arith))
