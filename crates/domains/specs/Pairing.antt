-- The duties of two domains side by side, from those of each. Assumes nothing.
use Rattle.std.specs.Prelude.{◌≡◌, ℕ, ◌-◌, ◌<◌, ◌≤◌, List, ◌∷◌, None, Option, refl}
use Rattle.std.proofs.lemmas.Bool.Decides.{nat_tests}
use Rattle.std.proofs.Common.{arith, le_refl}
use Rattle.frames.specs.declared.row.Row.{Row}
use Rattle.shelf.specs.Times.{NoLater, AtMost}
use Rattle.streams.specs.Demands.{horizon, LawfulCost}
use Rattle.domains.specs.Duties.{Duties}
use Rattle.domains.specs.Pairs.{pair_count, by_number}

-- what holds of each part holds of the pair
both : {X : Type 0} (P : X → Type 0) (n k : ℕ) (first second : ℕ → X) (outside : X) → (k < 4 → k < n → P (first k)) → (k < 4 → n ≤ k → P (second (k - n))) → (4 ≤ k → P outside) → P (by_number n k first second outside)
both P n k first second outside f s o = grind (arith, nat_tests)

-- and what holds between two questions to each part
both₂ : {X : Type 0} (R : X → X → Type 0) (n k : ℕ) (x y x' y' : ℕ → X) (z : X) → (k < n → R (x k) (x' k)) → (n ≤ k → R (y (k - n)) (y' (k - n))) → R z z → R (by_number n k x y z) (by_number n k x' y' z)
both₂ R n k x y x' y' z f s o = grind (arith, nat_tests)

module _ {P A B : Type 0} (first : P → A) (second : P → B)
    {na : A → ℕ} {ca : A → ℕ → ℕ → ℕ} {ra : A → ℕ → Row → List Row → List Row → Option ℕ}
    {nb : B → ℕ} {cb : B → ℕ → ℕ → ℕ} {rb : B → ℕ → Row → List Row → List Row → Option ℕ}
    (da : Duties na ca ra) (db : Duties nb cb rb) where
  abbrev n : P → ℕ
  n p = na (first p)

  abbrev pair_cost : P → ℕ → ℕ → ℕ
  pair_cost p k q = by_number (n p) k (λ j. ca (first p) j q) (λ j. cb (second p) j q) 0

  abbrev pair_response : P → ℕ → Row → List Row → List Row → Option ℕ
  pair_response p k f above below = by_number (n p) k (λ j. ra (first p) j f above below) (λ j. rb (second p) j f above below) None

  -- a law between two questions that each part keeps
  between : (R : Option ℕ → Option ℕ → Type 0) → R None None → (p : P) (k : ℕ) (f : Row) (us ls us' ls' : List Row)
      → ((j : ℕ) → R (ra (first p) j f us ls) (ra (first p) j f us' ls')) → ((j : ℕ) → R (rb (second p) j f us ls) (rb (second p) j f us' ls'))
      → R (pair_response p k f us ls) (pair_response p k f us' ls')
  between R o p k f us ls us' ls' x y =
      both₂ R (n p) k (λ j. ra (first p) j f us ls) (λ j. rb (second p) j f us ls) (λ j. ra (first p) j f us' ls') (λ j. rb (second p) j f us' ls') None (λ _. x k) (λ _. y (k - n p)) o

  pub pair_duties : Duties {D = P} (λ p. pair_count (na (first p)) (nb (second p))) pair_cost pair_response
  pair_duties = record {
    sized = λ p. (omega (arith, da.sized (first p), db.sized (second p)), omega arith);
    costs = λ p k q h l. both LawfulCost (n p) k (λ j. ca (first p) j q) (λ j. cb (second p) j q) 0
        (λ t e. da.costs (first p) k q e l) (λ t e. db.costs (second p) (k - n p) q (omega arith) l) (λ e. absurd (omega arith));
    grows = λ p k q r h l m. both₂ ◌≤◌ (n p) k (λ j. ca (first p) j q) (λ j. cb (second p) j q) (λ j. ca (first p) j r) (λ j. cb (second p) j r) 0
        (λ e. da.grows (first p) k q r e l m) (λ e. db.grows (second p) (k - n p) q r (omega arith) l m) (le_refl 0);
    free = λ p k q h. both (λ (c : ℕ). c ≡ 0) (n p) k (λ j. ca (first p) j q) (λ j. cb (second p) j q) 0
        (λ t e. absurd (omega arith)) (λ t e. db.free (second p) (k - n p) q (omega arith)) (λ e. refl);
    mute = λ p k f a b h. both (λ (o : Option ℕ). o ≡ None) (n p) k (λ j. ra (first p) j f a b) (λ j. rb (second p) j f a b) None
        (λ t e. absurd (omega arith)) (λ t e. db.mute (second p) (k - n p) f a b (omega arith)) (λ e. refl);
    above_order = λ p k f a o b r. between ◌≡◌ refl p k f a b o b (λ j. da.above_order (first p) j f a o b r) (λ j. db.above_order (second p) j f a o b r);
    below_order = λ p k f a b o r. between ◌≡◌ refl p k f a b a o (λ j. da.below_order (first p) j f a b o r) (λ j. db.below_order (second p) j f a b o r);
    bounded = λ p k f a b l m h. both (AtMost horizon) (n p) k (λ j. ra (first p) j f a b) (λ j. rb (second p) j f a b) None
        (λ t e. da.bounded (first p) k f a b l m h) (λ t e. db.bounded (second p) (k - n p) f a b l m h) (λ e. tt);
    drop_above = λ p k f x a b l y m h. between NoLater tt p k f (x ∷ a) b a b (λ j. da.drop_above (first p) j f x a b l y m h) (λ j. db.drop_above (second p) j f x a b l y m h);
    drop_below = λ p k f x a b l y m h. between NoLater tt p k f a (x ∷ b) a b (λ j. da.drop_below (first p) j f x a b l y m h) (λ j. db.drop_below (second p) j f x a b l y m h);
    move_down = λ p k f x a b l y m h. between NoLater tt p k f (x ∷ a) b a (x ∷ b) (λ j. da.move_down (first p) j f x a b l y m h) (λ j. db.move_down (second p) j f x a b l y m h);
  }
