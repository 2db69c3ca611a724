-- The last entered signal, withdrawn, leaves what was there before it. Assumes nothing.
use Rattle.std.proofs.Common.{◌≡◌, ℕ, suc, ◌-◌, ◌<◌, ◌≤◌, max, true, false, List, [], ◌∷◌, ◌++◌, length, refl, ap, ◌∙◌, ap₂, ⊎_elim, zero-add, arith}
use Rattle.std.proofs.lemmas.Grind.{common_steps}
use Rattle.std.specs.List.{remove}
use Rattle.std.proofs.ByRecursion.{All-weaker}
use Rattle.std.proofs.lemmas.List.{get_or_push}
use Rattle.std.proofs.lemmas.Bool.{cond-true, cond-false, cases_lt, true_from_ne_false}
use Rattle.signals.specs.declared.signal.Signal.{Signal}
use Rattle.signals.specs.declared.signal.Entry.{Entry}
use Rattle.signals.specs.Names.{no_entry}
use Rattle.signals.specs.Riders.{any_in}
use Rattle.signals.specs.Rows.{row_by}
use Rattle.signals.proofs.Finding.{found_last}
use Rattle.signals.proofs.Riding.{none_in, none_any, riders_none}
use Rattle.signals.proofs.Rowing.{row_nil}
use Rattle.packing.specs.Laws.{Placeable}
use Rattle.packing.specs.Packings.{Packing, packed, placed, closed_up, taken_out, found_out, withdrawn}
use Rattle.packing.proofs.Lowering.{lower_none}
use Rattle.packing.proofs.Placing.{none_past}
use Rattle.packing.proofs.Sounds.{Sound, Fair}

removed_push : {X : Type 0} (xs : List X) (x : X) → remove (xs ++ (x ∷ [])) (length xs) ≡ xs
removed_push xs x = grind (arith, common_steps)

module _ (p : Packing) (s : Signal) (n : ℕ) (h : Sound p) (may : Placeable p s n) where
  abbrev new : Entry
  new = record { signal = s; frame = n }

  -- no frame was empty
  any_old : n < p.frames → any_in n p.signals ≡ true
  any_old l =
      true_from_ne_false (any_in n p.signals) (λ t. omega (arith, (h.frames n l).filled.0, ap (λ ss. (row_by ss).fill) (riders_none n p.signals (none_in n p.signals t)), ap (λ r. r.fill) row_nil))

  any_new : p.frames ≤ n → any_in n p.signals ≡ false
  any_new l = none_any n p.signals (none_past p n h l)

  closes : closed_up n p.signals (max p.frames (suc n)) ≡ p
  closes = ⊎_elim {C = closed_up n p.signals (max p.frames (suc n)) ≡ p}
      (λ l. let m : max p.frames (suc n) ≡ p.frames = omega arith in cond-true _ _ _ (any_old l) ∙ ap (packed p.signals) m)
      (λ l. let m : max p.frames (suc n) - 1 ≡ p.frames = omega (arith, may.near) in cond-false _ _ _ (any_new l) ∙ ap₂ packed (lower_none n p.signals (All-weaker (Fair p) (λ e. e.frame < n) (λ e f. omega (arith, f.within)) p.signals h.signals)) m)
      (cases_lt n p.frames)

  taken_back : taken_out (placed p s n) (length p.signals) ≡ p
  unfolding taken_out placed
  taken_back =
      ap₂ (λ e es. closed_up e.frame es (max p.frames (suc n))) (get_or_push p.signals new no_entry (length p.signals) refl) (removed_push p.signals new) ∙ closes

  pub undone : withdrawn (placed p s n) s.name ≡ p
  unfolding withdrawn placed
  undone = ap (found_out (placed p s n)) (found_last s.name 0 p.signals new may.free refl) ∙ ap (taken_out (placed p s n)) (zero-add (length p.signals)) ∙ taken_back
