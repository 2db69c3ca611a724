-- A sheet is read as one bank and one list of signals, or has one fault. Assumes nothing.
use Rattle.std.proofs.Common.{◌≡◌, ℕ, List, refl, sym, ap, subst, ◌∙◌, arith}
use Rattle.std.specs.Prelude.{Some, None, Option, Result, Err}
use Rattle.std.proofs.Math.Path.{ap₂}
use Rattle.signals.specs.declared.signal.Signal.{Signal}
use Rattle.packing.specs.Packings.{Packing}
use Rattle.plan.specs.declared.closed.order.Counted.{Counted}
use Rattle.plan.specs.Closes.{order_says}
use Rattle.plan.specs.Said.{told}
use Rattle.sheet.specs.declared.fault.SheetFault.{SheetFault}
use Rattle.sheet.specs.Banks.{sheet_bank}
use Rattle.sheet.specs.Comes.{Faulty, Lawful, empty}
use Rattle.sheet.specs.Comes.Faulty.{long, head, body}
use Rattle.sheet.specs.Heads.{Four, bank_lines}
use Rattle.sheet.specs.Runs.{Comes, of_order, plan_listing, fault_listing}
use Rattle.sheet.specs.Runs.Comes.{planned, faulty}
use Rattle.sheet.specs.Signals.{SignalFault}
use Rattle.sheet.proofs.Heading.{bank_apart, head_one, head_no}
use Rattle.sheet.proofs.Telling.{counts, order_apart}
use Rattle.sheet.proofs.Walking.{Walk, walk_one, walk_whole, walk_fault}

-- a sheet whose first four lines are those of a bank, and whose later lines enter signals up to an end
record Read (s : List ℕ) (d : Four) (ss : List Signal) (p : Packing) (o : Option SheetFault) : Type 0 where
  lines : List ℕ
  is : s ≡ bank_lines d lines
  walk : Walk (sheet_bank d) empty 5 lines ss p o

read_one : (s : List ℕ) (d c : Four) (ss ts : List Signal) (p q : Packing) (o x : Option SheetFault)
    → Read s d ss p o → Read s c ts q x → (d ≡ c) × (ss ≡ ts) × (p ≡ q) × (o ≡ x)
read_one s d c ss ts p q o x h g =
    let banks = bank_apart d c h.lines g.lines (sym h.is ∙ g.is) in
    let h₁ = subst (λ b. Walk (sheet_bank b) empty 5 h.lines ss p o) banks.0 h.walk in
    let h₂ = subst (λ t. Walk (sheet_bank c) empty 5 t ss p o) banks.1 h₁ in
    let same = walk_one (sheet_bank c) ss ts empty 5 g.lines p q o x h₂ g.walk in
    (banks.0, same.0, same.1, same.2)

read_lawful : (s : List ℕ) (d : Four) (ss : List Signal) (p : Packing) → Lawful s d ss p → Read s d ss p None
read_lawful s d ss p h = record { lines = h.lines; is = h.is; walk = walk_whole (sheet_bank d) h.lines ss p h.entered }

read_faulty : (s : List ℕ) (e : SheetFault) (d : Four) (r : List ℕ) (p : Packing) → s ≡ bank_lines d r
    → (h : SignalFault (sheet_bank d) empty r e p) → Read s d h.before p (Some e)
read_faulty s e d r p is h = record { lines = r; is = is; walk = walk_fault (sheet_bank d) r e p h }

pub lawful_one : (s : List ℕ) (d c : Four) (ss ts : List Signal) (p q : Packing)
    → Lawful s d ss p → Lawful s c ts q → (d ≡ c) × (ss ≡ ts) × (p ≡ q)
lawful_one s d c ss ts p q h g =
    let same = read_one s d c ss ts p q None None (read_lawful s d ss p h) (read_lawful s c ts q g) in
    (same.0, same.1, same.2)

-- sheets that are read as the same are the same
pub lawful_text : (s t : List ℕ) (d : Four) (ss : List Signal) (p q : Packing) → Lawful s d ss p → Lawful t d ss q → s ≡ t
lawful_text s t d ss p q h g = h.is ∙ ap (bank_lines d) (h.entered.1 ∙ sym g.entered.1) ∙ sym g.is

pub faulty_one : (s : List ℕ) (e x : SheetFault) → Faulty s e → Faulty s x → e ≡ x
faulty_one s e x (long h) (long g) = refl
faulty_one s e x (long h) (head short g) = absurd (omega arith)
faulty_one s e x (long h) (body d r q short is g) = absurd (omega arith)
faulty_one s e x (head short h) (long g) = absurd (omega arith)
faulty_one s e x (head short h) (head low g) = head_one s e x h g
faulty_one s e x (head short h) (body d r q low is g) = absurd (head_no e s d r is h)
faulty_one s e x (body d r p short is h) (long g) = absurd (omega arith)
faulty_one s e x (body d r p short is h) (head low g) = absurd (head_no x s d r is g)
faulty_one s e x (body d r p short is h) (body c v q low has g) =
    let same = read_one s d c h.before g.before p q (Some e) (Some x) (read_faulty s e d r p is h) (read_faulty s x c v q has g) in
    cc same.3

-- a sheet that is read has no fault
pub lawful_no_fault : (s : List ℕ) (d : Four) (ss : List Signal) (p : Packing) (e : SheetFault) → Lawful s d ss p → Faulty s e → ⊥
lawful_no_fault s d ss p e h (long g) = let short = h.short in absurd (omega arith)
lawful_no_fault s d ss p e h (head short g) = head_no e s d h.lines h.is g
lawful_no_fault s d ss p e h (body c r q short is g) =
    let same = read_one s d c ss g.before p q None (Some e) (read_lawful s d ss p h) (read_faulty s e c r q is g) in
    cc same.3

pub comes_one : (s t u : List ℕ) (r q : Result Counted SheetFault) → Comes s t r → Comes s u q → (t ≡ u) × (r ≡ q)
comes_one s t u r q (planned d ss p a h tells says) (planned c ts v b g tell said) =
    let same = lawful_one s d c ss ts p v h g in
    let answers : told counts a ≡ told counts b = says ∙ ap₂ (λ x y. order_says (sheet_bank x) y) same.0 same.2 ∙ sym said in
    (ap₂ plan_listing same.0 same.2, ap of_order (order_apart a b answers))
comes_one s t u r q (planned d ss p a h tells says) (faulty g) = absurd (lawful_no_fault s d ss p _ h g)
comes_one s t u r q (faulty h) (planned d ss p a g tells says) = absurd (lawful_no_fault s d ss p _ g h)
comes_one s t u r q (faulty {e = e} h) (faulty {e = x} g) =
    let same = faulty_one s e x h g in
    (ap fault_listing same, ap Err same)
