-- The limits of a frame. Assumes nothing.
use Rattle.std.specs.Prelude.{ℕ, ◌≤◌, Bool, ◌&&◌, nat_le}
use Rattle.frames.specs.declared.row.Row.{Row}

abbrev pub Within : ℕ → ℕ → ℕ → Type 0
Within low x high = (low ≤ x) × (x ≤ high)

-- a payload has at most 64 bytes, and an empty frame is none
abbrev pub LawfulFill : ℕ → Type 0
LawfulFill fill = Within 1 fill 64

-- a millisecond to two seconds, in nanoseconds
abbrev pub LawfulPeriod : ℕ → Type 0
LawfulPeriod period = Within 1000000 period 2000000000

abbrev pub LawfulDeadline : ℕ → ℕ → Type 0
LawfulDeadline period deadline = Within 1 deadline period

-- one or more of four domains
abbrev pub LawfulSet : ℕ → Type 0
LawfulSet set = Within 1 set 15

-- a row that is within the limits
pub record Lawful (r : Row) : Type 0 where
  pub filled : LawfulFill r.fill
  pub paced : LawfulPeriod r.period
  pub timely : LawfulDeadline r.period r.deadline
  pub carried : LawfulSet r.set

-- the same as a test
abbrev pub within : ℕ → ℕ → ℕ → Bool
within low x high = nat_le low x && nat_le x high

abbrev pub lawful : Row → Bool
lawful r = within 1 r.fill 64 && (within 1000000 r.period 2000000000 && (within 1 r.deadline r.period && within 1 r.set 15))
