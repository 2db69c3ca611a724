-- The refusals of a sheet by their numbers, and the field that each speaks of. Assumes nothing.
use Rattle.std.specs.Prelude.{ℕ, []}
use Rattle.domains.specs.declared.fault.DomainFault.{DomainFault}
use Rattle.domains.specs.declared.fault.DomainFault.TheVariants.{FirstFigure, SecondFigure}
use Rattle.domains.specs.Faults.{Refusal, domain_told}
use Rattle.fields.specs.declared.reading.FieldFault.{FieldFault}
use Rattle.fields.specs.declared.reading.FieldFault.TheVariants as F
use Rattle.plan.specs.declared.fault.PlanFault.{PlanFault}
use Rattle.plan.specs.declared.fault.PlanFault.TheVariants as P
use Rattle.plan.specs.Faults.{plan_told}
use Rattle.sheet.specs.declared.fault.Cause.{Cause}
use Rattle.sheet.specs.declared.fault.Cause.TheVariants.{Output, Length, Letter, Digits, LineFeed, Domain, Plan}
use Rattle.sheet.specs.declared.fault.SheetFault.{SheetFault}

abbrev plain : ℕ → Refusal
plain n = record { number = n; values = [] }

-- each cause's number and values; a fault of a domain or of the plan keeps its own
abbrev pub cause_told : Cause → Refusal
cause_told Output = plain 20
cause_told Length = plain 16
cause_told Letter = plain 17
cause_told Digits = plain 18
cause_told LineFeed = plain 19
cause_told (Domain e) = domain_told e
cause_told (Plan e) = plan_told e

abbrev pub at : Cause → ℕ → ℕ → SheetFault
at c n k = record { cause = c; line = n; field = k }

-- a fault of a line's form
abbrev pub at_field : ℕ → FieldFault → SheetFault
at_field n (F.Digits k) = at Digits n k
at_field n (F.Feed k) = at LineFeed n k

-- the figures of a domain are its line's fields
abbrev pub domain_field : DomainFault → ℕ
domain_field FirstFigure = 1
domain_field SecondFigure = 2

abbrev pub of_domain : ℕ → DomainFault → SheetFault
of_domain n e = at (Domain e) n (domain_field e)

-- the field of a signal's line that a fault of the plan speaks of; the letter where it speaks of none
abbrev pub plan_field : PlanFault → ℕ
plan_field P.NameTaken = 1
plan_field P.Sender = 2
plan_field P.Size = 3
plan_field P.Period = 4
plan_field P.Deadline = 5
plan_field P.Set = 6
plan_field P.SignalsFull = 0
plan_field P.FramesFull = 0
plan_field P.NameUnknown = 0
plan_field (P.NoOrder size) = 0
plan_field P.FrameUnknown = 0
plan_field P.NotOrdered = 0
plan_field P.NotCarried = 0
plan_field P.NoConflict = 0

abbrev pub of_plan : ℕ → PlanFault → SheetFault
of_plan n e = at (Plan e) n (plan_field e)
