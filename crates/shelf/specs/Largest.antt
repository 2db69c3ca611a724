-- The largest of some numbers. Assumes nothing.
use Rattle.std.specs.Prelude.{◌≡◌, ℕ, zero, suc, ◌<◌, ◌≤◌, max}

-- the largest of g 0 to g (n − 1), or 0
abbrev pub largest : (ℕ → ℕ) → ℕ → ℕ
largest g zero = 0
largest g (suc n) = max (g n) (largest g n)

-- in words: it is one of them, and none exceeds it
pub record Largest (g : ℕ → ℕ) (n m : ℕ) : Type 0 where
  pub place : ℕ
  pub within : place < n
  pub is : m ≡ g place
  pub most : (q : ℕ) → q < n → g q ≤ m
