-- The questions of a signal's figures, by the limits of a frame of its own. Assumes nothing.
use Rattle.std.proofs.Common.{◌≡◌, ℕ, ◌^◌, ◌≤◌, Some, arith}
use Rattle.std.proofs.lemmas.Bool.Decides.{nat_tests}
use Rattle.frames.specs.declared.fault.RowFault.{RowFault}
use Rattle.frames.specs.declared.fault.RowFault.TheVariants.{Fill, Period, Deadline, Set}
use Rattle.frames.specs.Records.{Breaks}
use Rattle.signals.specs.declared.signal.Signal.{Signal}
use Rattle.signals.specs.Rows.{alone}
use Rattle.plan.specs.Faults.{plan_fault}
use Rattle.plan.specs.Questions.{first_no, figure_questions}

-- the first question that is answered with no is that of the limit that its row breaks; a set that no frame has is in no
-- bank of at most four domains
pub breaks_first : (domains : ℕ) (s : Signal) → 2 ^ domains ≤ 16 → s.sender ≤ 15 → (e : RowFault) → Breaks (alone s) e → Some (plan_fault e) ≡ first_no (figure_questions domains s)
breaks_first domains s few from Fill b = grind (arith, nat_tests)
breaks_first domains s few from Period b = grind (arith, nat_tests)
breaks_first domains s few from Deadline b = grind (arith, nat_tests)
breaks_first domains s few from Set b = grind (arith, nat_tests)
