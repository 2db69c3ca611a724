-- The largest of some numbers. Assumes nothing.
use Rattle.std.proofs.Common.{◌≡◌, ℕ, zero, suc, ◌<◌, ◌≤◌, ⊎_elim, le_refl, arith}
use Rattle.std.proofs.lemmas.Bool.{cases_lt}
use Rattle.shelf.specs.Largest.{largest, Largest}

pub largest_le : (g : ℕ → ℕ) (n m : ℕ) → ((q : ℕ) → q < n → g q ≤ m) → largest g n ≤ m
largest_le g zero m h = omega arith
largest_le g (suc n) m h = omega (arith, h n (le_refl (suc n)), largest_le g n m (λ q l. h q (omega arith)))

pub le_largest : (g : ℕ → ℕ) (n q : ℕ) → q < n → g q ≤ largest g n
le_largest g zero q h = absurd (omega arith)
le_largest g (suc n) q h = grind (arith, le_largest g n q)

reached : (g : ℕ → ℕ) (n : ℕ) → (q : ℕ) × (q < suc n) × (largest g (suc n) ≡ g q)
reached g zero = (0, omega arith, omega arith)
reached g (suc n) =
    let r = reached g n in
    ⊎_elim {C = (q : ℕ) × (q < suc (suc n)) × (largest g (suc (suc n)) ≡ g q)}
    (λ l. (r.0, omega (arith, r.1), omega (arith, r.2))) (λ l. (suc n, omega arith, omega arith)) (cases_lt (g (suc n)) (largest g (suc n)))

pub largest_is : (g : ℕ → ℕ) (n : ℕ) → 0 < n → Largest g n (largest g n)
largest_is g zero h = absurd (omega arith)
largest_is g (suc n) h =
    let r = reached g n in record { place = r.0; within = r.1; is = r.2; most = le_largest g (suc n) }
