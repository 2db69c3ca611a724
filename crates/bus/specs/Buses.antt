-- What a CAN FD bus costs and answers. Assumes nothing.
use Rattle.std.specs.Prelude.{ℕ, ◌+◌, ◌-◌, ◌*◌, cond, List, [], ◌∷◌, Some, None, Option, nat_lt}
use Rattle.shelf.specs.Folds.{most}
use Rattle.shelf.specs.Largest.{largest}
use Rattle.shelf.specs.Smallest.{solution}
use Rattle.shelf.specs.Times.{or_zero}
use Rattle.streams.specs.declared.stream.Stream.{Stream}
use Rattle.streams.specs.Demands.{ceil, demand, horizon}
use Rattle.bus.specs.declared.bus.Bus.{Bus}

abbrev pub figures : Bus → List ℕ
figures b = b.arbitration ∷ b.«data» ∷ []

-- 34 bits at the arbitration rate, 28 and ten for each byte at the data rate, and five more for a payload above 16
abbrev pub bus_price : Bus → ℕ → ℕ
bus_price b p = 34 * b.arbitration + (28 + 10 * p) * b.«data» + cond (nat_lt 16 p) (5 * b.«data») 0

-- B: the largest cost among the frames below, one of which may have just begun
unfoldable pub blocking : List Stream → ℕ
blocking below = most (λ s. s.cost) below

-- what keeps the bus busy up to t: a blocking b, and all that the frame and those above it release before t
abbrev pub busy_load : Stream → List Stream → ℕ → ℕ → ℕ
busy_load s above b t = b + demand (s ∷ above) t

-- L: the smallest t ≥ 1 at which that is done
unfoldable pub busy_period : Stream → List Stream → ℕ → Option ℕ
busy_period s above b = solution (busy_load s above b) 1 horizon

-- what goes before instance q when it has waited for w: the blocking, the instances before it, and all that those above
-- release up to the end of the arbitration bit in which it would start
abbrev pub queue_load : ℕ → Stream → List Stream → ℕ → ℕ → ℕ → ℕ
queue_load a s above b q w = (b + q * s.cost) + demand above (w + a)

-- W(q), the queueing delay of instance q: the smallest w ≥ 0 at which that is done
unfoldable pub delay : ℕ → Stream → List Stream → ℕ → ℕ → Option ℕ
delay a s above b q = solution (queue_load a s above b q) 0 horizon

-- the response time of instance q, from its own release: W(q) + C − q × T
unfoldable pub instance_time : ℕ → Stream → List Stream → ℕ → ℕ → ℕ
instance_time a s above b q = (or_zero (delay a s above b q) + s.cost) - q * s.period

-- over all instances of the busy period, if it ends
abbrev pub over_instances : Option ℕ → ℕ → (ℕ → ℕ) → Option ℕ
over_instances None period times = None
over_instances (Some l) period times = Some (largest times (ceil l period))

-- the largest response time among the ⌈L / T⌉ instances of the busy period
unfoldable pub response_by : ℕ → Stream → List Stream → ℕ → Option ℕ
response_by a s above b = over_instances (busy_period s above b) s.period (instance_time a s above b)

-- the response time of one instance of the busy period; none past its end
abbrev pub of_instance : Option ℕ → ℕ → (ℕ → ℕ) → ℕ → Option ℕ
of_instance None period times q = None
of_instance (Some l) period times q = cond (nat_lt q (ceil l period)) (Some (times q)) None

unfoldable pub instance_by : ℕ → Stream → List Stream → ℕ → ℕ → Option ℕ
instance_by a s above b q = of_instance (busy_period s above b) s.period (instance_time a s above b) q

-- with the blocking of the frames below: the answer, its busy period, and its instance q
abbrev pub bus_time : ℕ → Stream → List Stream → List Stream → Option ℕ
bus_time a s above below = response_by a s above (blocking below)

abbrev pub bus_busy : Stream → List Stream → List Stream → Option ℕ
bus_busy s above below = busy_period s above (blocking below)

abbrev pub bus_instance : ℕ → ℕ → Stream → List Stream → List Stream → Option ℕ
bus_instance a q s above below = instance_by a s above (blocking below) q
