-- What reading and planning a sheet comes to, before it is written. Assumes nothing.
use Rattle.std.specs.Prelude.{◌≡◌, ℕ, ◌<◌, ◌≤◌, List, [], ◌∷◌, length, Ok, Err, Result}
use Rattle.std.specs.List.{AllByRecursion}
use Rattle.signals.specs.declared.signal.Signal.{Signal}
use Rattle.packing.specs.Packings.{Packing, packed}
use Rattle.plan.specs.declared.closed.order.Counted.{Counted}
use Rattle.plan.specs.declared.fault.PlanFault.{PlanFault}
use Rattle.plan.specs.Banks.{Bank}
use Rattle.plan.specs.Closes.{ordered, order_says}
use Rattle.plan.specs.Said.{told}
use Rattle.listing.specs.declared.text.Listing.{Listing}
use Rattle.listing.specs.Lines.{listing}
use Rattle.listing.specs.Tells.{Told}
use Rattle.sheet.specs.declared.fault.Cause.TheVariants.{Length}
use Rattle.sheet.specs.declared.fault.SheetFault.{SheetFault}
use Rattle.sheet.specs.Banks.{sheet_bank}
use Rattle.sheet.specs.Faults.{at}
use Rattle.sheet.specs.Heads.{Four, bank_lines, HeadFault}
use Rattle.sheet.specs.Plans.{PlanOf}
use Rattle.sheet.specs.Signals.{Named, Taken, SignalFault, signal_lines}

-- a plan of no signals
abbrev pub empty : Packing
empty = packed [] 0

-- the plan of some signals is ordered and listed; the listing tells what then stands
abbrev pub Listed : Bank → Packing → Listing × Result Counted PlanFault → Type 0
Listed m p given =
    (given.0.bytes.items ≡ listing m p (ordered m p)) × Told m p (ordered m p) given.0.bytes.items
    × (told (λ c. c.frames ∷ c.examinations ∷ []) given.1 ≡ order_says m p)

-- the signals of a text, entered one after another, none of which is refused
abbrev pub Entered : Bank → List ℕ → List Signal → Packing → Type 0
Entered m s ss p = AllByRecursion Named ss × (s ≡ signal_lines ss) × Taken m empty ss p

abbrev pub LinesCome : Bank → List ℕ → Result (Listing × Result Counted PlanFault) SheetFault → Type 0
LinesCome m s (Ok given) = (ss : List Signal) × (p : Packing) × Entered m s ss p × PlanOf m ss p × Listed m p given
LinesCome m s (Err e) = (q : Packing) × SignalFault m empty s e q

-- the first fault of a sheet: it is too long, one of the first four lines is at fault, or a later one
pub data Faulty (s : List ℕ) : SheetFault → Type 0 where
  long : 16384 < length s → Faulty s (at Length 0 0)
  head : {e : SheetFault} → length s ≤ 16384 → HeadFault e s → Faulty s e
  body : {e : SheetFault} (d : Four) (rest : List ℕ) (q : Packing) → length s ≤ 16384 → s ≡ bank_lines d rest → SignalFault (sheet_bank d) empty rest e q → Faulty s e

-- a sheet without fault: it is written out from the figures of four domains and from signals that are entered one after
-- another, none of which is refused
pub record Lawful (s : List ℕ) (d : Four) (ss : List Signal) (p : Packing) : Type 0 where
  pub short : length s ≤ 16384
  pub lines : List ℕ
  pub is : s ≡ bank_lines d lines
  pub entered : Entered (sheet_bank d) lines ss p
  pub plan : PlanOf (sheet_bank d) ss p

abbrev pub SheetComes : List ℕ → Result (Listing × Result Counted PlanFault) SheetFault → Type 0
SheetComes s (Ok given) = (d : Four) × (ss : List Signal) × (p : Packing) × Lawful s d ss p × Listed (sheet_bank d) p given
SheetComes s (Err e) = Faulty s e
