-- The limits of a frame, as a fact and as a test. Assumes nothing.
use Rattle.std.proofs.Common.{◌≡◌, true, false, Some, None, Ok, Err, Result, Decides, ap, ◌∙◌, subst, arith}
use Rattle.std.specs.Result.{result_ok}
use Rattle.std.proofs.lemmas.Bool.{false_from_ne_true}
use Rattle.std.proofs.lemmas.Bool.Decides.{nat_tests}
use Rattle.frames.specs.declared.fault.RowFault.{RowFault}
use Rattle.frames.specs.declared.fault.RowFault.TheVariants.{Fill, Period, Deadline, Set}
use Rattle.frames.specs.declared.row.Row.{Row}
use Rattle.frames.specs.declared.frame.Frame.{Frame}
use Rattle.frames.specs.Limits.{Lawful, lawful}
use Rattle.frames.specs.Records.{row_of, Breaks, Checked}

pub lawful_from : (r : Row) → Lawful r → lawful r ≡ true
lawful_from r h = grind (arith, nat_tests)

pub from_lawful : (r : Row) → lawful r ≡ true → Lawful r
from_lawful r e = record { filled = grind (arith, nat_tests); paced = grind (arith, nat_tests); timely = grind (arith, nat_tests); carried = grind (arith, nat_tests) }

pub decides_lawful : (r : Row) → Decides (lawful r) (Lawful r)
decides_lawful r = (from_lawful r, lawful_from r)

pub lawful_frame : (f : Frame) → Lawful (row_of f)
lawful_frame f = record { filled = f.filled; paced = f.paced; timely = f.timely; carried = f.carried }

-- a row that breaks a limit is outside the limits
pub breaks_unlawful : (r : Row) (e : RowFault) → Breaks r e → Lawful r → ⊥
breaks_unlawful r Fill b h = b h.filled
breaks_unlawful r Period b h = b.1 h.paced
breaks_unlawful r Deadline b h = b.2 h.timely
breaks_unlawful r Set b h = b.3 h.carried

-- the row of a record is within the limits
pub lawful_row : (r : Row) (f : Frame) → row_of f ≡ r → lawful r ≡ true
lawful_row r f e = subst (λ (x : Row). lawful x ≡ true) e (lawful_from (row_of f) (lawful_frame f))

-- what the check of a row tells, where its fault is left out
pub checked_none : (r : Row) (x : Result Frame RowFault) → Checked r x → None ≡ result_ok x → lawful r ≡ false
checked_none r (Ok f) h e = cc
checked_none r (Err b) h e = false_from_ne_true (lawful r) (λ t. breaks_unlawful r b h (from_lawful r t))

pub checked_some : (r : Row) (x : Result Frame RowFault) (f : Frame) → Checked r x → Some f ≡ result_ok x → row_of f ≡ r
checked_some r (Ok g) f h e = let same : f ≡ g = cc in ap row_of same ∙ h
checked_some r (Err b) f h e = cc
