-- The questions that calls ask, each with the fault where the answer is no. Assumes nothing.
use Rattle.std.specs.Prelude.{◌≡◌, ℕ, ◌^◌, Bool, cond, not, ◌&&◌, List, [], ◌∷◌, ◌++◌, length, is_some, Some, None, Ok, Err, Option, Result, nat_le, nat_lt}
use Rattle.timing.specs.Carried.{carried}
use Rattle.frames.specs.Limits.{within}
use Rattle.signals.specs.declared.signal.Signal.{Signal}
use Rattle.signals.specs.Names.{place_of}
use Rattle.packing.specs.declared.choice.Choice.{Choice}
use Rattle.packing.specs.Choices.{choice}
use Rattle.packing.specs.Laws.{Placeable}
use Rattle.packing.specs.Packings.{Packing, row}
use Rattle.plan.specs.declared.fault.PlanFault.{PlanFault}
use Rattle.plan.specs.declared.fault.PlanFault.TheVariants.{Sender, Size, Period, Deadline, Set, NameTaken, SignalsFull, FramesFull, NameUnknown, FrameUnknown, NotOrdered, NotCarried, NoConflict}
use Rattle.plan.specs.Stands.{Stands, is_order, is_conflict}

abbrev pub Questions : Type 0
Questions = List (PlanFault × Bool)

-- the fault of the first question that is answered with no
abbrev pub first_no : Questions → Option PlanFault
first_no [] = None
first_no (q ∷ qs) = cond q.1 (first_no qs) (Some q.0)

-- of a signal's own figures, over a bank of so many domains
abbrev pub figure_questions : ℕ → Signal → Questions
figure_questions domains s =
    (Sender, nat_le s.sender 15) ∷
    (Size, within 1 s.size 64) ∷
    (Period, within 1000000 s.period 2000000000) ∷
    (Deadline, within 1 s.deadline s.period) ∷
    (Set, nat_le 1 s.set && nat_lt s.set (2 ^ domains)) ∷ []

-- of what the plan holds
abbrev pub place_questions : (ℕ → ℕ → ℕ) → Packing → Signal → Questions
place_questions cost p s =
    (NameTaken, not (is_some (place_of s.name 0 p.signals))) ∷
    (SignalsFull, nat_lt (length p.signals) 256) ∷
    (FramesFull, is_some (choice cost p s)) ∷ []

unfoldable pub enter_questions : ℕ → (ℕ → ℕ → ℕ) → Packing → Signal → Questions
enter_questions domains cost p s = figure_questions domains s ++ place_questions cost p s

-- of withdraw, and of the reading of a signal's frame
unfoldable pub name_questions : Packing → ℕ → Questions
name_questions p name = (NameUnknown, is_some (place_of name 0 p.signals)) ∷ []

-- of the readings of a frame: of its record, of its identifier, of its response in domain k, of its membership in the conflict
abbrev pub frame_questions : Packing → ℕ → Questions
frame_questions p n = (FrameUnknown, nat_lt n p.frames) ∷ []

abbrev pub identifier_questions : Packing → Stands → ℕ → Questions
identifier_questions p st n = (FrameUnknown, nat_lt n p.frames) ∷ (NotOrdered, is_order st) ∷ []

abbrev pub response_questions : Packing → Stands → ℕ → ℕ → Questions
response_questions p st n k = (FrameUnknown, nat_lt n p.frames) ∷ (NotOrdered, is_order st) ∷ (NotCarried, carried k (row p n)) ∷ []

abbrev pub member_questions : Packing → Stands → ℕ → Questions
member_questions p st n = (FrameUnknown, nat_lt n p.frames) ∷ (NoConflict, is_conflict st) ∷ []

-- the fault of what a call of the code answered
abbrev pub fault_of : {X : Type 0} → Result X PlanFault → Option PlanFault
fault_of (Ok x) = None
fault_of (Err f) = Some f

-- what the questions of enter come to: a choice that may take the signal, where none is answered with no
abbrev pub Asked : ℕ → (ℕ → ℕ → ℕ) → Packing → Signal → Result Choice PlanFault → Type 0
Asked domains cost p s (Ok c) = (first_no (enter_questions domains cost p s) ≡ None) × (choice cost p s ≡ Some c) × Placeable p s c.frame
Asked domains cost p s (Err f) = first_no (enter_questions domains cost p s) ≡ Some f
