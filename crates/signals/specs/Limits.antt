-- The limits of a signal. Assumes nothing.
use Rattle.std.specs.Prelude.{◌≤◌, Bool, ◌&&◌, nat_le}
use Rattle.frames.specs.Limits.{LawfulFill, LawfulPeriod, LawfulDeadline, LawfulSet, within}
use Rattle.signals.specs.declared.signal.Signal.{Signal}

-- sixteen senders; for the rest a signal is within what a frame of its own would be
pub record LawfulSignal (s : Signal) : Type 0 where
  pub from : s.sender ≤ 15
  pub sized : LawfulFill s.size
  pub paced : LawfulPeriod s.period
  pub timely : LawfulDeadline s.period s.deadline
  pub named : LawfulSet s.set

-- the same as a test
abbrev pub lawful_signal : Signal → Bool
lawful_signal s = nat_le s.sender 15 && (within 1 s.size 64 && (within 1000000 s.period 2000000000 && (within 1 s.deadline s.period && within 1 s.set 15)))
