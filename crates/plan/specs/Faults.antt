-- The refusals of a plan by their numbers. Assumes nothing.
use Rattle.std.specs.Prelude.{ℕ, [], ◌∷◌}
use Rattle.domains.specs.Faults.{Refusal}
use Rattle.frames.specs.declared.fault.RowFault.{RowFault}
use Rattle.frames.specs.declared.fault.RowFault.TheVariants as R
use Rattle.plan.specs.declared.fault.PlanFault.{PlanFault}
use Rattle.plan.specs.declared.fault.PlanFault.TheVariants.{Sender, Size, Period, Deadline, Set, NameTaken, SignalsFull, FramesFull, NameUnknown, NoOrder, FrameUnknown, NotOrdered, NotCarried, NoConflict}

-- the fault of a signal whose own frame breaks a limit
abbrev pub plan_fault : RowFault → PlanFault
plan_fault R.Fill = Size
plan_fault R.Period = Period
plan_fault R.Deadline = Deadline
plan_fault R.Set = Set

-- a refusal that has no values
abbrev plain : ℕ → Refusal
plain n = record { number = n; values = [] }

-- each fault's number and values
abbrev pub plan_told : PlanFault → Refusal
plan_told Sender = plain 2
plan_told Size = plain 3
plan_told Period = plain 4
plan_told Deadline = plain 5
plan_told Set = plain 6
plan_told NameTaken = plain 7
plan_told SignalsFull = plain 8
plan_told FramesFull = plain 9
plan_told NameUnknown = plain 10
plan_told (NoOrder size) = record { number = 11; values = size ∷ [] }
plan_told FrameUnknown = plain 12
plan_told NotOrdered = plain 13
plan_told NotCarried = plain 14
plan_told NoConflict = plain 15
