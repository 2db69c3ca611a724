-- By how much a packing weighs more with one signal more. Assumes nothing.
use Rattle.std.proofs.Common.{◌≡◌, ℕ, suc, ◌+◌, ◌-◌, ◌<◌, ◌≤◌, max, List, [], ◌∷◌, ◌++◌, length, Some, None, sum_by, sym, refl, ap, ◌∙◌, ⊎_elim, arith}
use Rattle.std.proofs.lemmas.List.Sums.{sum_by-set, sum_by_push}
use Rattle.std.proofs.lemmas.Bool.{cases_lt, cond-true, cond-false, lt-ltb, le-ltb}
use Rattle.domains.specs.Asked.{no_row}
use Rattle.signals.specs.declared.signal.Signal.{Signal}
use Rattle.signals.specs.declared.signal.Entry.{Entry}
use Rattle.weights.specs.Weights.{row_weight, rows_weight}
use Rattle.packing.specs.declared.choice.Choice.{Choice}
use Rattle.packing.specs.Choices.{growth_at, choice, row_with}
use Rattle.packing.specs.Laws.{Placeable, Lightest}
use Rattle.packing.specs.Packings.{Packing, row, rows, rows_of, placed, packing_weight}
use Rattle.packing.proofs.Chosen.{choice_best}
use Rattle.packing.proofs.Offers.{heavier}
use Rattle.packing.proofs.Placing.{lawful_with, room_at}
use Rattle.packing.proofs.Rowed.{rows_long, row_at, rows_joined, rows_opened}
use Rattle.packing.proofs.Sounds.{Sound}
use Rattle.std.proofs.lemmas.Option.{same_Some}

module _ (cost : ℕ → ℕ → ℕ) (up : (k p q : ℕ) → p ≤ q → q ≤ 64 → cost k p ≤ cost k q) (p : Packing) (s : Signal) (h : Sound p) where
  long : length (rows p) ≡ p.frames
  long = rows_long p.signals p.frames

  module _ (n : ℕ) (may : Placeable p s n) where
    abbrev new : Entry
    new = record { signal = s; frame = n }

    abbrev after : List Entry
    after = p.signals ++ (new ∷ [])

    -- an old frame: its row is replaced
    old_weight : n < p.frames → packing_weight cost (placed p s n) ≡ packing_weight cost p + (row_weight cost (row_with p n s) - row_weight cost (row p n))
    unfolding placed rows_weight
    old_weight l =
        let m : max p.frames (suc n) ≡ p.frames = omega arith in
        omega (arith, ap (λ k. sum_by (row_weight cost) (rows_of after k)) m, ap (sum_by (row_weight cost)) (rows_joined p.signals p.frames s n (row_with p n s) refl l), sum_by-set (row_weight cost) (rows p) n (row_with p n s) no_row (omega (arith, long)), ap (row_weight cost) (row_at p.signals p.frames n no_row l), heavier cost p s n (lawful_with p n s h may.lawful (room_at p s n h may)) up)

    -- a new frame: its row goes to the end
    new_weight : p.frames ≤ n → packing_weight cost (placed p s n) ≡ packing_weight cost p + row_weight cost (row_with p n s)
    unfolding placed rows_weight
    new_weight l =
        let last : n ≡ p.frames = omega (arith, may.near) in
        let m : max p.frames (suc n) ≡ p.frames + 1 = omega arith in
        ap (λ k. sum_by (row_weight cost) (rows_of after k)) m
        ∙ ap (sum_by (row_weight cost)) (sym (rows_opened p.signals p.frames s n (row_with p n s) refl last))
        ∙ sum_by_push (row_weight cost) (rows p) (row_with p n s)

    -- by so much, as the growth at the frame says
    pub grown : (g : ℕ) × (growth_at cost p s n ≡ Some g) × (packing_weight cost (placed p s n) ≡ packing_weight cost p + g)
    unfolding growth_at
    grown = ⊎_elim {C = (g : ℕ) × (growth_at cost p s n ≡ Some g) × (packing_weight cost (placed p s n) ≡ packing_weight cost p + g)}
        (λ l. (row_weight cost (row_with p n s) - row_weight cost (row p n), cond-true _ _ _ (lt-ltb _ _ l) ∙ cond-true _ _ _ (may.joins l), old_weight l))
        (λ l. (row_weight cost (row_with p n s), cond-false _ _ _ (le-ltb _ _ l) ∙ cond-true _ _ _ (lt-ltb _ _ may.room), new_weight l))
        (cases_lt n p.frames)

  -- where there is no choice, no frame may take the signal
  pub none_may : choice cost p s ≡ None → (n : ℕ) → Placeable p s n → ⊥
  none_may e n may =
      let o = grown n may in
      choice_best cost p s None e n o.0 (omega (arith, may.near)) o.1

  pub lightest : (c : Choice) → choice cost p s ≡ Some c → Placeable p s c.frame → Lightest cost p s (placed p s c.frame)
  lightest c e may =
      let best = choice_best cost p s (Some c) e in
      let o = grown c.frame may in
      let g : c.growth ≡ o.0 = same_Some _ _ (sym best.1 ∙ o.1) in
      record {
        frame = c.frame;
        may = may;
        is = refl;
        least = λ k q. let r = grown k q in omega (arith, best.2 k r.0 (omega (arith, q.near)) r.1, r.2, o.2);
        first = λ k l q. let r = grown k q in omega (arith, best.3 k r.0 l r.1, r.2, o.2);
        grows = λ k q. omega (arith, (grown k q).2);
      }
