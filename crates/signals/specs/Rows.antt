-- The row of the frame that carries some signals. Assumes nothing.
use Rattle.std.specs.Prelude.{ℕ, ◌+◌, min, List, fold, sum_by, bit_or}
use Rattle.frames.specs.declared.row.Row.{Row}
use Rattle.shelf.specs.Folds.{least}
use Rattle.signals.specs.declared.signal.Signal.{Signal}

-- the longest lawful period, which no lawful one exceeds
abbrev pub longest : ℕ
longest = 2000000000

-- the sender of the last (they have one); the sum of the sizes; the smallest period; the smallest deadline; the union
-- of the sets
unfoldable pub row_by : List Signal → Row
row_by ss = record {
  sender = fold (λ _ s. s.sender) 0 ss;
  fill = sum_by (λ s. s.size) ss;
  period = least (λ s. s.period) longest ss;
  deadline = least (λ s. s.deadline) longest ss;
  set = fold (λ d s. bit_or d s.set) 0 ss;
}

-- of one signal
abbrev pub alone : Signal → Row
alone s = record { sender = s.sender; fill = s.size; period = s.period; deadline = s.deadline; set = s.set }

-- with one signal more
abbrev pub joined : Row → Signal → Row
joined r s = record {
  sender = s.sender;
  fill = r.fill + s.size;
  period = min r.period s.period;
  deadline = min r.deadline s.deadline;
  set = bit_or r.set s.set;
}
