-- What a call answers, as users see it. Assumes nothing.
use Rattle.std.specs.Prelude.{ℕ, List, [], Some, None, Ok, Err, Option, Result}
use Rattle.domains.specs.Faults.{Refusal}
use Rattle.plan.specs.declared.fault.PlanFault.{PlanFault}
use Rattle.plan.specs.Faults.{plan_told}

-- the values of an answer, or a refusal with its number and values
pub data Said : Type 0 where
  gives : List ℕ → Said
  refuses : Refusal → Said

-- what a call of the code answered
abbrev pub told : {X : Type 0} → (X → List ℕ) → Result X PlanFault → Said
told values (Ok x) = gives (values x)
told values (Err f) = refuses (plan_told f)

-- an answer that says only that it is done
abbrev pub done : {X : Type 0} → X → List ℕ
done x = []

-- what a call answers that has such values, unless a question was answered with no
abbrev pub unless_refused : List ℕ → Option PlanFault → Said
unless_refused values None = gives values
unless_refused values (Some f) = refuses (plan_told f)
