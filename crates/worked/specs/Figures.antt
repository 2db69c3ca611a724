-- Figures worked by hand. Assumes nothing.
use Rattle.std.specs.Prelude.{◌≡◌, ℕ, ◌<◌, List, [], ◌∷◌, Some, None, Option}
use Rattle.std.proofs.Common.{arith}
use Rattle.std.specs.List.{AllByRecursion}
use Rattle.frames.specs.declared.row.Row.{Row}
use Rattle.frames.specs.Limits.{Lawful}
use Rattle.frames.specs.Payloads.{payload}
use Rattle.streams.specs.Demands.{weight}
use Rattle.kinds.specs.Rows.{alone_response, of_streams}
use Rattle.bus.specs.declared.bus.Bus.{Bus}
use Rattle.bus.specs.Buses.{bus_price, bus_time, bus_busy, bus_instance}
use Rattle.gateway.specs.declared.gateway.Gateway.{Gateway}
use Rattle.gateway.specs.Gateways.{gateway_price, relayed}
use Rattle.radio.specs.declared.radio.Radio.{Radio}
use Rattle.radio.specs.Radios.{radio_price, radio_time}

-- a frame with this fill and period
abbrev pub frame : ℕ → ℕ → Row
frame fill period = record { sender = 1; fill = fill; period = period; deadline = 150000; set = 1 }

-- 20,000 for a frame and 100 for a byte
abbrev pub processor : Gateway
processor = record { fixed = 20000; byte = 100; starts = (omega arith, omega arith); copies = (omega arith, omega arith) }

-- what the processor answers for a frame, with others above it
abbrev pub through_processor : Row → List Row → Option ℕ
through_processor f above = alone_response gateway_price (λ g. relayed) processor 0 f above []

-- 50,000 for a byte
abbrev pub link : Radio
link = record { byte = 50000; limits = (omega arith, omega arith) }

-- what the link answers for a frame, with another above it
abbrev pub over_link : Row → Row → Option ℕ
over_link f other = alone_response radio_price (λ r. radio_time) link 0 f (other ∷ []) []

-- arbitration bits of 2,000 and data bits of 500
abbrev pub fast_bus : Bus
fast_bus = record { arbitration = 2000; «data» = 500; arbitrates = (omega arith, omega arith); sends = (omega arith, omega arith) }

-- all bits of 8,000
abbrev pub slow_bus : Bus
slow_bus = record { arbitration = 8000; «data» = 8000; arbitrates = (omega arith, omega arith); sends = (omega arith, omega arith) }

-- what a bus answers for a frame, with others above it and below it
abbrev pub on_bus : Bus → Row → List Row → List Row → Option ℕ
on_bus bus f above below = alone_response bus_price (λ b. bus_time b.arbitration) bus 0 f above below

-- three frames of cost 1,136,000 on the slow bus, the last of which is asked about
abbrev pub last : Row
last = frame 8 3976000

abbrev pub before : List Row
before = frame 8 2840000 ∷ frame 8 3976000 ∷ []

abbrev pub last_busy : Option ℕ
last_busy = of_streams (bus_price slow_bus) bus_busy last before []

abbrev pub last_instance : ℕ → Option ℕ
last_instance q = of_streams (bus_price slow_bus) (bus_instance 8000 q) last before []

-- a frame that is due after 150,000
abbrev pub due : Row
due = frame 8 1000000

pub record WorkedFigures : Type 0 where
  -- fills and their payloads
  pub fill_8 : payload 8 ≡ 8
  pub fill_9 : payload 9 ≡ 12
  pub fill_17 : payload 17 ≡ 20
  pub fill_49 : payload 49 ≡ 64
  -- payloads and their costs on a bus
  pub cost_2 : bus_price fast_bus 2 ≡ 92000
  pub cost_16 : bus_price fast_bus 16 ≡ 162000
  pub cost_20 : bus_price fast_bus 20 ≡ 184500
  pub cost_64 : bus_price fast_bus 64 ≡ 404500
  -- a cost of 92,000 at period 3,000,000
  pub weighs : weight (record { cost = 92000; period = 3000000 }) ≡ 30667
  -- a payload of 8 below one of 64
  pub gateway : through_processor (frame 8 1000000) (frame 64 1000000 ∷ []) ≡ Some 47200
  -- payloads 2 and 8, at the smallest period that a round of both allows, and just below it
  pub radio : over_link (frame 2 1100000) (frame 8 1100000) ≡ Some 1100000
  pub radio_late : over_link (frame 2 1099999) (frame 8 1100000) ≡ None
  -- the last of three frames: its busy period, its two instances, and its answer
  pub cost_slow : bus_price slow_bus 8 ≡ 1136000
  pub busy : last_busy ≡ Some 7952000
  pub first_instance : last_instance 0 ≡ Some 3408000
  pub second_instance : last_instance 1 ≡ Some 3976000
  pub no_third : last_instance 2 ≡ None
  pub answer : on_bus slow_bus last before [] ≡ Some 3976000
  -- two frames that are in each other's way: each answer, and alone
  pub upper : on_bus fast_bus due [] (due ∷ []) ≡ Some 244000
  pub lower : on_bus fast_bus due (due ∷ []) [] ≡ Some 244000
  pub alone : on_bus fast_bus due [] [] ≡ Some 122000

-- why a busy period has to be followed to its end: there is a bus, and a frame with others above it, whose answer
-- exceeds the time of its first instance
pub record LaterInstance : Type 0 where
  pub bus : Bus
  pub frame_asked : Row
  pub above : List Row
  pub lawful : Lawful frame_asked × AllByRecursion Lawful above
  pub first : ℕ
  pub first_is : of_streams (bus_price bus) (bus_instance bus.arbitration 0) frame_asked above [] ≡ Some first
  pub worst : ℕ
  pub worst_is : on_bus bus frame_asked above [] ≡ Some worst
  pub later : first < worst
