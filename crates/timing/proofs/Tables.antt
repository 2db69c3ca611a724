-- A table made by a call at each index. Assumes nothing.
use Rattle.std.proofs.Common.{◌≡◌, ℕ, zero, suc, ◌+◌, ◌<◌, ◌≤◌, ◌⊎◌, List, get_or, inl, inr, sym, refl, subst, arith}
use Rattle.std.proofs.lemmas.Bool.{cases_lt}
use Rattle.std.specs.Array.{IsFromFnResultFrom, IsFromFnResult}
use Rattle.std.specs.Fn.{Called, Mut}

-- a closure that changes nothing, and whose answer at an index is h of it
module _ {F B : Type 0} {g : Mut F (ℕ × Unit {0}) B} (f : F) (h : ℕ → B → Type 0) (says : (k : ℕ) (y : B) (q : F) → Called g f (k, tt) y q → (q ≡ f) × h k y) (ys : List B) (d : B) where
  made_from : (q : F) → q ≡ f → (i n : ℕ) → IsFromFnResultFrom g q ys i n → (k : ℕ) → i ≤ k → k < i + n → h k (get_or ys k d)
  made_from q e i zero c k l m = absurd (omega arith)
  made_from q e i (suc n) c k l m =
      let said = says i c.1 c.0 (subst (λ p. Called g p (i, tt) c.1 c.0) e c.3) in
      go said (cases_lt i k) (λ later. made_from c.0 said.0 (i + 1) n c.4 k (omega arith) (omega arith))
    where
      go : (c.0 ≡ f) × h i c.1 → (i < k) ⊎ (k ≤ i) → (i < k → h k (get_or ys k d)) → h k (get_or ys k d)
      go said (inl later) rest = rest later
      go said (inr here) rest = let at : i ≡ k = omega arith in subst (λ j. h j (get_or ys j d)) at (subst (h i) (sym (c.2.1 d)) said.1)

  pub made_at : (n : ℕ) → IsFromFnResult g f ys n → (k : ℕ) → k < n → h k (get_or ys k d)
  made_at n made k l = made_from f refl 0 n made.each k (omega arith) (omega arith)
