-- What streams demand of a domain in a time. Assumes nothing.
use Rattle.std.specs.Prelude.{ℕ, ◌+◌, ◌-◌, ◌*◌, ◌/◌, ◌≤◌, List, sum_by}
use Rattle.frames.specs.Limits.{Within, LawfulPeriod}
use Rattle.streams.specs.declared.stream.Stream.{Stream}

-- no response time exceeds four seconds
abbrev pub horizon : ℕ
horizon = 4000000000

-- what a frame may cost in a domain
abbrev pub LawfulCost : ℕ → Type 0
LawfulCost cost = Within 1 cost 20000000

pub record Fit (s : Stream) : Type 0 where
  pub priced : LawfulCost s.cost
  pub paced : LawfulPeriod s.period

-- w / t, rounded up
unfoldable pub ceil : ℕ → ℕ → ℕ
ceil w t = (w + (t - 1)) / t

-- in words: the smallest m with w ≤ m × t
pub record Rounded (w t m : ℕ) : Type 0 where
  pub covers : w ≤ m * t
  pub least : (n : ℕ) → w ≤ n * t → m ≤ n

-- the sum over the streams of ⌈w / T⌉ × C
unfoldable pub demand : List Stream → ℕ → ℕ
demand streams w = sum_by (λ s. ceil w s.period * s.cost) streams

-- what is to be served in w: a base, and what the streams release in w and the time ahead
abbrev pub busy : List Stream → ℕ → ℕ → ℕ → ℕ
busy streams base ahead w = base + demand streams (w + ahead)

-- the costs of the streams together
unfoldable pub total : List Stream → ℕ
total streams = sum_by (λ s. s.cost) streams

-- cost × 1,000,000 / period, rounded up: the millionths of a domain that a stream takes
unfoldable pub weight : Stream → ℕ
weight s = ceil (s.cost * 1000000) s.period
