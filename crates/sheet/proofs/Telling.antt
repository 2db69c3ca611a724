-- What a refusal tells is told by one fault. Assumes nothing.
use Rattle.std.proofs.Common.{◌≡◌, ℕ, ◌-◌, List, [], ◌∷◌, refl, sym, ap, ◌∙◌}
use Rattle.std.specs.Prelude.{Ok, Err, Result, slice_index_or}
use Rattle.domains.specs.declared.fault.DomainFault.{DomainFault}
use Rattle.domains.specs.declared.fault.DomainFault.TheVariants.{FirstFigure, SecondFigure}
use Rattle.domains.specs.Faults.{Refusal, domain_told}
use Rattle.plan.specs.declared.closed.order.Counted.{Counted}
use Rattle.plan.specs.declared.fault.PlanFault.{PlanFault}
use Rattle.plan.specs.declared.fault.PlanFault.TheVariants.{Sender, Size, Period, Deadline, Set, NameTaken, SignalsFull, FramesFull, NameUnknown, NoOrder, FrameUnknown, NotOrdered, NotCarried, NoConflict}
use Rattle.plan.specs.Faults.{plan_told}
use Rattle.plan.specs.Said.{Said, told}
use Rattle.plan.specs.Said.Said.{gives, refuses}
use Rattle.sheet.specs.Heads.{field}

-- what can be told back is told apart
pub apart : {X Y : Type 0} (tell : X → Y) (back : Y → X) → ((x : X) → back (tell x) ≡ x) → (x y : X) → tell x ≡ tell y → x ≡ y
apart tell back known x y e = sym (known x) ∙ ap back e ∙ known y

-- the fault of a domain with such values
domain_fault : Refusal → DomainFault
domain_fault r = slice_index_or (FirstFigure ∷ []) (field r.values 0 - 1) SecondFigure

domain_back : (e : DomainFault) → domain_fault (domain_told e) ≡ e
unfolding domain_fault
domain_back FirstFigure = refl
domain_back SecondFigure = refl

pub domain_apart : (e x : DomainFault) → domain_told e ≡ domain_told x → e ≡ x
domain_apart = apart domain_told domain_fault domain_back

-- the fault of a plan with such a number and such values: they are counted on from 2
plan_fault : Refusal → PlanFault
plan_fault r =
    slice_index_or (Sender ∷ Size ∷ Period ∷ Deadline ∷ Set ∷ NameTaken ∷ SignalsFull ∷ FramesFull ∷ NameUnknown ∷ NoOrder (field r.values 0) ∷ FrameUnknown ∷ NotOrdered ∷ NotCarried ∷ [])
    (r.number - 2) NoConflict

plan_back : (e : PlanFault) → plan_fault (plan_told e) ≡ e
unfolding plan_fault
plan_back Sender = refl
plan_back Size = refl
plan_back Period = refl
plan_back Deadline = refl
plan_back Set = refl
plan_back NameTaken = refl
plan_back SignalsFull = refl
plan_back FramesFull = refl
plan_back NameUnknown = refl
plan_back (NoOrder size) = refl
plan_back FrameUnknown = refl
plan_back NotOrdered = refl
plan_back NotCarried = refl
plan_back NoConflict = refl

pub plan_apart : (e x : PlanFault) → plan_told e ≡ plan_told x → e ≡ x
plan_apart = apart plan_told plan_fault plan_back

-- what order answered
abbrev pub counts : Counted → List ℕ
counts c = c.frames ∷ c.examinations ∷ []

order_answer : Said → Result Counted PlanFault
order_answer (gives vs) = Ok (record { frames = field vs 0; examinations = field vs 1 })
order_answer (refuses f) = Err (plan_fault f)

order_back : (r : Result Counted PlanFault) → order_answer (told counts r) ≡ r
unfolding order_answer
order_back (Ok c) = refl
order_back (Err e) = ap Err (plan_back e)

pub order_apart : (r q : Result Counted PlanFault) → told counts r ≡ told counts q → r ≡ q
order_apart = apart (told counts) order_answer order_back
