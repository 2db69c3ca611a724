-- The answer of a bus in the words of its subject. Assumes nothing.
use Rattle.std.specs.Prelude.{◌≡◌, ℕ, ◌+◌, ◌*◌, ◌<◌, ◌≤◌, List, Some, None, Option}
use Rattle.shelf.specs.Smallest.{Smallest}
use Rattle.streams.specs.declared.stream.Stream.{Stream}
use Rattle.streams.specs.Demands.{ceil, horizon}
use Rattle.bus.specs.Buses.{busy_load, queue_load}

-- with the blocking b, instance q waits w: the smallest solution of its equation
abbrev pub Waits : ℕ → Stream → List Stream → ℕ → ℕ → ℕ → Type 0
Waits a s above b q w = Smallest (λ v. v ≡ queue_load a s above b q v) 0 horizon (Some w)

-- with the blocking b, r is the answer, for a busy period that ends
pub record BusResponse (a : ℕ) (s : Stream) (above : List Stream) (b r : ℕ) : Type 0 where
  -- the busy period: the smallest solution of its equation
  pub busy : ℕ
  pub busy_is : Smallest (λ t. t ≡ busy_load s above b t) 1 horizon (Some busy)
  -- each instance of it has a queueing delay, begins no earlier than it is released, is done when the busy period
  -- ends, and takes no longer than r
  pub each : (q : ℕ) → q < ceil busy s.period → (w : ℕ) × Waits a s above b q w × (q * s.period ≤ w) × (w + s.cost ≤ busy) × (w + s.cost ≤ r + q * s.period)
  -- and one of them takes just r
  pub latest : ℕ
  pub within : latest < ceil busy s.period
  pub wait : ℕ
  pub waits : Waits a s above b latest wait
  pub takes : wait + s.cost ≡ r + latest * s.period
  -- so it is no less than the frame's own cost, and no more than the busy period
  pub least : s.cost ≤ r
  pub most : r ≤ busy

-- none: no busy period ends up to the horizon
abbrev pub BusAnswer : ℕ → Stream → List Stream → ℕ → Option ℕ → Type 0
BusAnswer a s above b (Some r) = BusResponse a s above b r
BusAnswer a s above b None = Smallest (λ t. t ≡ busy_load s above b t) 1 horizon None
