-- What a fault of a sheet says. Assumes nothing.
use Rattle.std.specs.Prelude.{ℕ, List, ◌++◌, codes, cond, decimal, ◌==◌}
use Rattle.domains.specs.Texts.{domain_fault_text}
use Rattle.plan.specs.Texts.{plan_fault_text}
use Rattle.sheet.specs.declared.fault.Cause.{Cause}
use Rattle.sheet.specs.declared.fault.Cause.TheVariants.{Output, Length, Letter, Digits, LineFeed, Domain, Plan}
use Rattle.sheet.specs.declared.fault.SheetFault.{SheetFault}

abbrev pub cause_text : Cause → List ℕ
cause_text Output = codes "the output is shorter than the longest listing"
cause_text Length = codes "the sheet is longer than a sheet may be"
cause_text Letter = codes "the letter of the line is not the one due"
cause_text Digits = codes "a field is not one space and its exact digits"
cause_text LineFeed = codes "no line feed follows the last field"
cause_text (Domain e) = domain_fault_text e
cause_text (Plan e) = plan_fault_text e

-- its place, where it has one, and its cause
abbrev pub sheet_fault_text : SheetFault → List ℕ
sheet_fault_text e =
    cond (e.line == 0) (cause_text e.cause) (codes "line " ++ decimal e.line ++ codes ", field " ++ decimal e.field ++ codes ": " ++ cause_text e.cause)
