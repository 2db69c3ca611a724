-- A sheet means one thing. Assumes nothing.
use Rattle.std.specs.Prelude.{◌≡◌, ℕ, ◌≤◌, List, length, Result}
use Rattle.std.specs.List.{AllByRecursion}
use Rattle.signals.specs.declared.signal.Signal.{Signal}
use Rattle.packing.specs.Packings.{Packing}
use Rattle.plan.specs.declared.closed.order.Counted.{Counted}
use Rattle.sheet.specs.declared.fault.SheetFault.{SheetFault}
use Rattle.sheet.specs.Banks.{sheet_bank}
use Rattle.sheet.specs.Comes.{Faulty, Lawful, empty}
use Rattle.sheet.specs.Heads.{Four, bank_lines}
use Rattle.sheet.specs.Runs.{Comes}
use Rattle.sheet.specs.Signals.{Named, Taken, signal_lines}

pub record Meaning : Type 0 where
  -- a sheet that is written out from four domains and from signals is read back as those, where each signal has its
  -- digits and is not refused in its turn, and the sheet is not too long
  pub read_back : (d : Four) (ss : List Signal) (p : Packing) → AllByRecursion Named ss
      → length (bank_lines d (signal_lines ss)) ≤ 16384 → Taken (sheet_bank d) empty ss p → Lawful (bank_lines d (signal_lines ss)) d ss p
  -- a sheet is read in one way: as these four domains, these signals and this packing of them
  pub one_reading : (s : List ℕ) (d c : Four) (ss ts : List Signal) (p q : Packing)
      → Lawful s d ss p → Lawful s c ts q → (d ≡ c) × (ss ≡ ts) × (p ≡ q)
  -- sheets that are read as the same domains and signals are the same, so sheets that differ are read as different ones
  pub one_sheet : (s t : List ℕ) (d : Four) (ss : List Signal) (p q : Packing) → Lawful s d ss p → Lawful t d ss q → s ≡ t
  -- a sheet has one first fault: one cause, at one field of one line
  pub one_fault : (s : List ℕ) (e x : SheetFault) → Faulty s e → Faulty s x → e ≡ x
  -- and none where it is read
  pub no_fault : (s : List ℕ) (d : Four) (ss : List Signal) (p : Packing) (e : SheetFault) → Lawful s d ss p → Faulty s e → ⊥
  -- so a sheet comes to one listing and one outcome
  pub one_outcome : (s t u : List ℕ) (r q : Result Counted SheetFault) → Comes s t r → Comes s u q → (t ≡ u) × (r ≡ q)
