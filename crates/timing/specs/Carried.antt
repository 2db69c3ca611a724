-- Which domain carries a frame, and when an answer is in time. Assumes nothing.
use Rattle.std.specs.Prelude.{ℕ, ◌/◌, ◌%◌, ◌^◌, Bool, false, Some, None, Option, ◌==◌, nat_le}
use Rattle.frames.specs.declared.row.Row.{Row}

-- the set has bit k, of value 2 to the power k
abbrev pub in_set : ℕ → ℕ → Bool
in_set k set = (set / 2 ^ k % 2) == 1

-- domain k carries the frame
abbrev pub carried : ℕ → Row → Bool
carried k r = in_set k r.set

-- the answer is a time, not above the deadline
abbrev pub timely : Option ℕ → ℕ → Bool
timely None deadline = false
timely (Some t) deadline = nat_le t deadline
