-- The lines of a sheet after the first four: its signals. Assumes nothing.
use Rattle.std.specs.Prelude.{◌≡◌, ◌≢◌, ℕ, ◌+◌, List, [], ◌∷◌, ◌++◌, length, Ok, Err, Result}
use Rattle.std.specs.List.{AllByRecursion}
use Rattle.std.specs.Borrow.{Bor}
use Rattle.fields.specs.Fields.{AllFit}
use Rattle.signals.specs.declared.signal.Signal.{Signal}
use Rattle.packing.specs.Packings.{Packing}
use Rattle.plan.specs.declared.fault.PlanFault.{PlanFault}
use Rattle.plan.specs.Banks.{Bank}
use Rattle.plan.specs.Drafts.{entered, enter_says}
use Rattle.plan.specs.Faults.{plan_told}
use Rattle.plan.specs.Said.Said.{gives, refuses}
use Rattle.sheet.specs.declared.fault.SheetFault.{SheetFault}
use Rattle.sheet.specs.Faults.{of_plan}
use Rattle.sheet.specs.Forms.{signal_form, line}
use Rattle.sheet.specs.Lines.{OutOfForm, AtFault}

abbrev pub signal_figures : Signal → List ℕ
signal_figures s = s.name ∷ s.sender ∷ s.size ∷ s.period ∷ s.deadline ∷ s.set ∷ []

-- a signal that a line can name
abbrev pub Named : Signal → Type 0
Named s = AllFit signal_form.widths (signal_figures s)

abbrev pub signal_line : Signal → List ℕ
signal_line s = line signal_form (signal_figures s)

abbrev pub signal_lines : List Signal → List ℕ
signal_lines [] = []
signal_lines (s ∷ ss) = signal_line s ++ signal_lines ss

-- the signal of line n, with what follows, or where the text leaves the form
abbrev pub SignalRead : ℕ → List ℕ → Result (Signal × Bor (List ℕ)) SheetFault → Type 0
SignalRead n s (Ok read) = Named read.0 × (s ≡ signal_line read.0 ++ read.1.now)
SignalRead n s (Err e) = OutOfForm signal_form n s e

-- the signals are entered one after another, and none is refused
abbrev pub Taken : Bank → Packing → List Signal → Packing → Type 0
Taken m p [] q = q ≡ p
Taken m p (s ∷ ss) q = (enter_says m.domains m.cost p s ≡ gives []) × Taken m (entered m.domains m.cost p s) ss q

-- the plan refuses the signal of line n
abbrev pub PlanRefuses : Bank → Packing → ℕ → List ℕ → SheetFault → Type 0
PlanRefuses m p n vs e = (s : Signal) × (x : PlanFault) × (vs ≡ signal_figures s) × (e ≡ of_plan n x) × (enter_says m.domains m.cost p s ≡ refuses (plan_told x))

-- a line after the first four is at fault, and those before it have put their signals into the plan
pub record SignalFault (m : Bank) (p : Packing) (s : List ℕ) (e : SheetFault) (q : Packing) : Type 0 where
  pub before : List Signal
  pub rest : List ℕ
  pub named : AllByRecursion Named before
  pub is : s ≡ signal_lines before ++ rest
  pub taken : Taken m p before q
  pub more : rest ≢ []
  pub fault : AtFault signal_form (5 + length before) (PlanRefuses m q (5 + length before)) rest e

-- all signals of a text are in the plan, or one line is at fault
abbrev pub SignalsRead : Bank → Packing → List ℕ → Result Unit SheetFault → Packing → Type 0
SignalsRead m p s (Ok done) q = (ss : List Signal) × AllByRecursion Named ss × (s ≡ signal_lines ss) × Taken m p ss q
SignalsRead m p s (Err e) q = SignalFault m p s e q
