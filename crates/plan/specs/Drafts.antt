-- What enter and withdraw do to the packing of a draft, and what they answer. Assumes nothing.
use Rattle.std.specs.Prelude.{ℕ, [], Some, None, Option}
use Rattle.signals.specs.declared.signal.Signal.{Signal}
use Rattle.packing.specs.declared.choice.Choice.{Choice}
use Rattle.packing.specs.Choices.{choice}
use Rattle.packing.specs.Packings.{Packing, placed}
use Rattle.plan.specs.declared.fault.PlanFault.{PlanFault}
use Rattle.plan.specs.Questions.{first_no, enter_questions, name_questions}
use Rattle.plan.specs.Said.{Said, unless_refused}

-- the signal in the frame that was chosen for it
abbrev pub chosen : Packing → Signal → Option Choice → Packing
chosen p s None = p
chosen p s (Some c) = placed p s c.frame

-- the new packing, unless the call is refused
abbrev pub unless : {X : Type 0} → Option PlanFault → X → X → X
unless None new old = new
unless (Some f) new old = old

unfoldable pub entered : ℕ → (ℕ → ℕ → ℕ) → Packing → Signal → Packing
entered domains cost p s = unless (first_no (enter_questions domains cost p s)) (chosen p s (choice cost p s)) p

abbrev pub enter_says : ℕ → (ℕ → ℕ → ℕ) → Packing → Signal → Said
enter_says domains cost p s = unless_refused [] (first_no (enter_questions domains cost p s))

abbrev pub withdraw_says : Packing → ℕ → Said
withdraw_says p name = unless_refused [] (first_no (name_questions p name))
