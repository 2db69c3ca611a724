-- The book that a plan in the code holds. Assumes nothing.
use Rattle.packing.specs.Holds.{held}
use Rattle.plan.specs.Holds.{stands_of}
use Rattle.runs.specs.declared.state.Plan.{Plan}
use Rattle.runs.specs.declared.state.Plan.TheVariants.{Open, Shut}
use Rattle.runs.specs.Books.{Book, draft, shut}

module _ {B : Type 0} where
  abbrev pub plan_book : Plan B → Book
  plan_book (Open d) = draft (held d.tables)
  plan_book (Shut c) = shut (held c.tables) (stands_of (held c.tables).frames c.standing)

  abbrev pub plan_bank : Plan B → B
  plan_bank (Open d) = d.bank
  plan_bank (Shut c) = c.bank
