-- What the look at one frame finds, and that the choice may take the signal. Assumes nothing.
use Rattle.std.proofs.Common.{◌≡◌, ℕ, ◌+◌, ◌-◌, ◌<◌, ◌≤◌, true, false, List, [], ◌∷◌, ◌++◌, length, Some, None, ap, ◌∙◌, arith}
use Rattle.std.proofs.lemmas.Bool.Decides.{nat_tests}
use native.Mathlib.Nat.{min-le_left}
use Rattle.std.specs.List.{AllByRecursion}
use Rattle.timing.specs.Carried.{in_set}
use Rattle.frames.specs.Limits.{Lawful}
use Rattle.frames.specs.declared.row.Row.{Row}
use Rattle.signals.specs.declared.signal.Signal.{Signal}
use Rattle.signals.specs.Limits.{LawfulSignal}
use Rattle.signals.specs.Names.{names}
use Rattle.signals.specs.Riders.{riders}
use Rattle.signals.specs.Rows.{row_by}
use Rattle.signals.proofs.Rowing.{row_push, in_left}
use Rattle.weights.specs.Weights.{row_weight}
use Rattle.weights.proofs.Weighing.{Fuller, fuller_heavier}
use Rattle.packing.specs.declared.choice.Choice.{Choice}
use Rattle.packing.specs.Choices.{may_join, row_with, growth_at, choice}
use Rattle.packing.specs.Laws.{Placeable}
use Rattle.packing.specs.Packings.{Packing, row}
use Rattle.packing.proofs.Chosen.{choice_best}
use Rattle.packing.proofs.Placing.{fill_push}
use Rattle.packing.proofs.Sounds.{Sound}

-- a frame with one signal more
fuller : (ss : List Signal) (s : Signal) → 1 ≤ (row_by (ss ++ (s ∷ []))).period → Fuller (row_by ss) (row_by (ss ++ (s ∷ [])))
fuller ss s lasts = record {
  filled = omega (arith, fill_push ss s);
  paced = omega (arith, ap (λ r. r.period) (row_push ss s), min-le_left (row_by ss).period s.period);
  lasts = lasts;
  reaches = λ k t. ap (λ r. in_set k r.set) (row_push ss s) ∙ in_left k (row_by ss).set s.set t;
}

module _ (cost : ℕ → ℕ → ℕ) (p : Packing) (s : Signal) (n : ℕ) where
  -- a frame is no lighter with one signal more, since a larger payload costs no less
  pub heavier : Lawful (row_with p n s) → ((k q r : ℕ) → q ≤ r → r ≤ 64 → cost k q ≤ cost k r) → row_weight cost (row p n) ≤ row_weight cost (row_with p n s)
  heavier l up = fuller_heavier cost up (row p n) (row_with p n s) (fuller (riders n p.signals) s (omega (arith, l.paced.0)))

  -- a frame that there is, of such a row
  module _ (old : n < p.frames) (r : Row) (is : r ≡ row p n) where
    no_join : may_join (row p n) s ≡ false → None ≡ growth_at cost p s n
    unfolding growth_at
    no_join t = grind (arith, nat_tests)

    pub other_sender : (r.sender ≡ s.sender → ⊥) → None ≡ growth_at cost p s n
    other_sender ne = no_join (grind (arith, nat_tests, ap (λ x. x.sender) is))

    pub too_full : 64 < r.fill + s.size → None ≡ growth_at cost p s n
    too_full more = no_join (grind (arith, nat_tests, ap (λ x. x.fill) is))

    pub joins : r.sender ≡ s.sender → r.fill + s.size ≤ 64 → (w v : ℕ) → w ≡ row_weight cost (row_with p n s) → v ≡ row_weight cost (row p n) → Some (w - v) ≡ growth_at cost p s n
    unfolding growth_at
    joins same room w v x y =
        let yes : may_join (row p n) s ≡ true = grind (arith, nat_tests, ap (λ x. x.sender) is, ap (λ x. x.fill) is) in grind (arith, nat_tests)

  -- a new one
  module _ (past : p.frames ≤ n) where
    pub no_room : 96 ≤ n → None ≡ growth_at cost p s n
    unfolding growth_at
    no_room full = grind (arith, nat_tests)

    pub opens : n < 96 → (w : ℕ) → w ≡ row_weight cost (row_with p n s) → Some w ≡ growth_at cost p s n
    unfolding growth_at
    opens room w x = grind (arith, nat_tests)

-- the choice may take the signal
pub choice_placeable : (cost : ℕ → ℕ → ℕ) (p : Packing) (s : Signal) (c : Choice) → Sound p → LawfulSignal s → length p.signals < 256 → AllByRecursion (λ y. y ≡ s.name → ⊥) (names p.signals) → choice cost p s ≡ Some c → Placeable p s c.frame
unfolding growth_at
choice_placeable cost p s c h l few free e =
    let o = choice_best cost p s (Some c) e in
    let n = c.frame in
    record {
      lawful = l;
      few = few;
      free = free;
      near = omega (arith, o.0);
      room = let most = h.room in grind (arith, nat_tests);
      joins = λ m. grind (arith, nat_tests);
    }
