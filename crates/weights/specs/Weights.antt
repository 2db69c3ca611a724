-- What frames weigh, where cost k p is what a payload p costs in domain k. Assumes nothing.
use Rattle.std.specs.Prelude.{ℕ, zero, suc, ◌+◌, cond, List, sum_by}
use Rattle.frames.specs.declared.row.Row.{Row}
use Rattle.timing.specs.Carried.{carried}
use Rattle.frames.specs.Payloads.{payload}
use Rattle.streams.specs.Demands.{weight}

-- in domain k: cost × 1,000,000 / period, rounded up, where it carries the frame
unfoldable pub weight_in : (ℕ → ℕ → ℕ) → ℕ → Row → ℕ
weight_in cost k r = cond (carried k r) (weight (record { cost = cost k (payload r.fill); period = r.period })) 0

-- g 0 + .. + g (n − 1)
abbrev pub sum_below : (ℕ → ℕ) → ℕ → ℕ
sum_below g zero = 0
sum_below g (suc n) = sum_below g n + g n

-- a frame's weight is the sum over its domains
unfoldable pub row_weight : (ℕ → ℕ → ℕ) → Row → ℕ
row_weight cost r = sum_below (λ k. weight_in cost k r) 4

-- and that of a list of frames the sum over them
unfoldable pub rows_weight : (ℕ → ℕ → ℕ) → List Row → ℕ
rows_weight cost rows = sum_by (row_weight cost) rows
