-- The choice is the first of the smallest growths. Assumes nothing.
use Rattle.std.proofs.Common.{◌≡◌, ℕ, zero, suc, ◌<◌, ◌≤◌, leb, ◌≢◌, Some, None, Option, refl, subst, arith}
use Rattle.std.proofs.lemmas.Bool.{leb-true, leb-false, cond_both}
use Rattle.signals.specs.declared.signal.Signal.{Signal}
use Rattle.packing.specs.declared.choice.Choice.{Choice}
use Rattle.packing.specs.Choices.{growth_at, at_frame, lighter, lightest_below, choice}
use Rattle.packing.specs.Packings.{Packing}

-- the first of the smallest growths below n, or there is none
abbrev pub Best : (ℕ → Option ℕ) → ℕ → Option Choice → Type 0
Best growth n None = (k g : ℕ) → k < n → growth k ≢ Some g
Best growth n (Some c) = (c.frame < n) × (growth c.frame ≡ Some c.growth) × ((k g : ℕ) → k < n → growth k ≡ Some g → c.growth ≤ g) × ((k g : ℕ) → k < c.frame → growth k ≡ Some g → c.growth < g)

module _ (growth : ℕ → Option ℕ) (n : ℕ) where
  -- one more
  step : (best : Option Choice) (o : Option ℕ) → growth n ≡ o → Best growth n best → Best growth (suc n) (lighter best (at_frame n o))
  step None None e b = λ k g l f. grind (arith, b k g)
  step (Some c) None e b = (
    omega (arith, b.0),
    b.1,
    (λ k g l f. grind (arith, b.2 k g)),
    b.3,
  )
  step None (Some h) e b = (
    omega arith,
    e,
    (λ k g l f. grind (arith, b k g)),
    (λ k g l f. absurd (b k g l f)),
  )
  step (Some c) (Some h) e b =
      cond_both (leb c.growth h) (Some c) (Some (record { frame = n; growth = h })) (Best growth (suc n))
      (λ t. let le = leb-true c.growth h t in (
        omega (arith, b.0),
        b.1,
        (λ k g l f. grind (arith, le, b.2 k g)),
        b.3,
      ))
      (λ t. let lt = leb-false c.growth h t in (
        omega arith,
        e,
        (λ k g l f. grind (arith, lt, b.2 k g)),
        (λ k g l f. omega (arith, lt, b.2 k g l f)),
      ))

best_is : (growth : ℕ → Option ℕ) (n : ℕ) → Best growth n (lightest_below growth n)
best_is growth zero = λ k g l f. omega arith
best_is growth (suc n) = step growth n (lightest_below growth n) (growth n) refl (best_is growth n)

pub choice_best : (cost : ℕ → ℕ → ℕ) (p : Packing) (s : Signal) (o : Option Choice) → choice cost p s ≡ o → Best (growth_at cost p s) (suc p.frames) o
unfolding choice
choice_best cost p s o e = subst (Best (growth_at cost p s) (suc p.frames)) e (best_is (growth_at cost p s) (suc p.frames))
