-- A kind of domain over rows: one domain, with the number 0. Assumes nothing.
use Rattle.std.specs.Prelude.{ℕ, cond, List, map, None, Option, ◌==◌}
use Rattle.frames.specs.declared.row.Row.{Row}
use Rattle.frames.specs.Payloads.{payload}
use Rattle.streams.specs.declared.stream.Stream.{Stream}

-- what a frame is to a domain in which a payload has this price
abbrev pub stream_by : (ℕ → ℕ) → Row → Stream
stream_by price r = record { cost = price (payload r.fill); period = r.period }

-- a meaning over streams, asked about rows
abbrev pub of_streams : (ℕ → ℕ) → (Stream → List Stream → List Stream → Option ℕ) → Row → List Row → List Row → Option ℕ
of_streams price time f above below = time (stream_by price f) (map (stream_by price) above) (map (stream_by price) below)

abbrev pub one : {D : Type 0} → D → ℕ
one d = 1

-- any other number costs nothing
abbrev pub alone_cost : {D : Type 0} → (D → ℕ → ℕ) → D → ℕ → ℕ → ℕ
alone_cost price d k p = cond (k == 0) (price d p) 0

-- any other number has no answer
abbrev pub alone_response : {D : Type 0} → (D → ℕ → ℕ) → (D → Stream → List Stream → List Stream → Option ℕ) → D → ℕ → Row → List Row → List Row → Option ℕ
alone_response price time d k f above below =
    cond (k == 0) (of_streams (price d) (time d) f above below) None
