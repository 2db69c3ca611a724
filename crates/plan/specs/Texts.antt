-- What a fault of a plan says. Assumes nothing.
use Rattle.std.specs.Prelude.{ℕ, List, codes}
use Rattle.plan.specs.declared.fault.PlanFault.{PlanFault}
use Rattle.plan.specs.declared.fault.PlanFault.TheVariants.{Sender, Size, Period, Deadline, Set, NameTaken, SignalsFull, FramesFull, NameUnknown, NoOrder, FrameUnknown, NotOrdered, NotCarried, NoConflict}

abbrev pub plan_fault_text : PlanFault → List ℕ
plan_fault_text Sender = codes "the sender of a signal is outside its limits"
plan_fault_text Size = codes "the size of a signal is outside its limits"
plan_fault_text Period = codes "the period of a signal is outside its limits"
plan_fault_text Deadline = codes "the deadline of a signal is outside its limits"
plan_fault_text Set = codes "the domain set of a signal is outside the bank"
plan_fault_text NameTaken = codes "a signal of the plan has the name already"
plan_fault_text SignalsFull = codes "the plan has as many signals as it can"
plan_fault_text FramesFull = codes "no frame can be joined or opened"
plan_fault_text NameUnknown = codes "no signal of the plan has the name"
plan_fault_text (NoOrder _) = codes "the frames have no order"
plan_fault_text FrameUnknown = codes "the plan has no frame of the number"
plan_fault_text NotOrdered = codes "no order stands"
plan_fault_text NotCarried = codes "the domain does not carry the frame"
plan_fault_text NoConflict = codes "no conflict stands"
