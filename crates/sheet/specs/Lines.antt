-- Where a line leaves its form, or is refused. Assumes nothing.
use Rattle.std.specs.Prelude.{◌≡◌, ◌≢◌, ℕ, List, ◌∷◌, ◌++◌, Ok, Err, Result}
use Rattle.std.specs.Borrow.{Bor}
use Rattle.fields.specs.declared.reading.FieldFault.{FieldFault}
use Rattle.fields.specs.Fields.{AllFit, LineEnd}
use Rattle.sheet.specs.declared.fault.Cause.TheVariants.{Letter}
use Rattle.sheet.specs.declared.fault.SheetFault.{SheetFault}
use Rattle.sheet.specs.Faults.{at, at_field}
use Rattle.sheet.specs.Forms.{Form, line}

-- the text, from line n on, does not go on with a line of the form: its letter is not the one due, or a field is not,
-- up to which it goes on so
pub data OutOfForm (f : Form) (n : ℕ) (s : List ℕ) : SheetFault → Type 0 where
  first : ((t : List ℕ) → s ≢ f.first ∷ t) → OutOfForm f n s (at Letter n 0)
  later : (t : List ℕ) (e : FieldFault) → s ≡ f.first ∷ t → LineEnd f.widths t (Err e) → OutOfForm f n s (at_field n e)

-- line n: its values and what follows it, or where the text leaves the form
abbrev pub LineRead : Form → ℕ → List ℕ → Result (List ℕ × Bor (List ℕ)) SheetFault → Type 0
LineRead f n s (Ok read) = AllFit f.widths read.0 × (s ≡ line f read.0 ++ read.1.now)
LineRead f n s (Err e) = OutOfForm f n s e

-- line n is at fault: it leaves its form, or, where it does not, what it asks for is refused
pub data AtFault (f : Form) (n : ℕ) (Refused : List ℕ → SheetFault → Type 0) (s : List ℕ) : SheetFault → Type 0 where
  form : {e : SheetFault} → OutOfForm f n s e → AtFault f n Refused s e
  asked : {e : SheetFault} (vs rest : List ℕ) → AllFit f.widths vs → s ≡ line f vs ++ rest → Refused vs e → AtFault f n Refused s e
