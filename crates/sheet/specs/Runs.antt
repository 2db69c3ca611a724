-- What the run of a sheet writes and answers. Assumes nothing.
use Rattle.std.specs.Prelude.{◌≡◌, ℕ, ◌<◌, ◌≤◌, List, [], ◌∷◌, ◌++◌, drop, length, Ok, Err, Result}
use Rattle.signals.specs.declared.signal.Signal.{Signal}
use Rattle.packing.specs.Packings.{Packing}
use Rattle.plan.specs.declared.closed.order.Counted.{Counted}
use Rattle.plan.specs.declared.fault.PlanFault.{PlanFault}
use Rattle.plan.specs.Closes.{ordered, order_says}
use Rattle.plan.specs.Said.{told}
use Rattle.listing.specs.Lines.{listing, fault_line}
use Rattle.listing.specs.Tells.{Told}
use Rattle.sheet.specs.declared.fault.Cause.TheVariants.{Output}
use Rattle.sheet.specs.declared.fault.SheetFault.{SheetFault}
use Rattle.sheet.specs.declared.run.Report.{Report}
use Rattle.sheet.specs.Banks.{sheet_bank}
use Rattle.sheet.specs.Comes.{Lawful, Faulty}
use Rattle.sheet.specs.Faults.{at, cause_told, of_plan}
use Rattle.sheet.specs.Heads.{Four}

-- an answer of order as the sheet tells it: a refusal concerns the whole sheet
abbrev pub of_order : Result Counted PlanFault → Result Counted SheetFault
of_order (Ok c) = Ok c
of_order (Err e) = Err (of_plan 0 e)

-- the listing of the plan of a sheet, or of its fault
abbrev pub plan_listing : Four → Packing → List ℕ
plan_listing d p = listing (sheet_bank d) p (ordered (sheet_bank d) p)

abbrev pub fault_listing : SheetFault → List ℕ
fault_listing e = fault_line (cause_told e.cause).number e.line e.field

-- what a sheet comes to: the listing of its plan, which tells what stands of it, and what order answered; or its first
-- fault
pub data Comes (s : List ℕ) : List ℕ → Result Counted SheetFault → Type 0 where
  planned : (d : Four) (ss : List Signal) (p : Packing) (r : Result Counted PlanFault) → Lawful s d ss p → Told (sheet_bank d) p (ordered (sheet_bank d) p) (plan_listing d p)
      → told (λ c. c.frames ∷ c.examinations ∷ []) r ≡ order_says (sheet_bank d) p → Comes s (plan_listing d p) (of_order r)
  faulty : {e : SheetFault} → Faulty s e → Comes s (fault_listing e) (Err e)

-- a run writes the listing to the front of the output and answers its length; where the output is shorter than the
-- longest listing it writes nothing
abbrev pub Ran : List ℕ → List ℕ → List ℕ → Result Report SheetFault → Type 0
Ran s entry exit (Err e) = (length entry < 6240) × (e ≡ at Output 0 0) × (exit ≡ entry)
Ran s entry exit (Ok r) =
    (6240 ≤ length entry) × (text : List ℕ) × Comes s text r.outcome × (r.written ≡ length text) × (exit ≡ text ++ drop (length text) entry)
