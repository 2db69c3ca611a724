-- A search through a table by index, and the same through the list of the chosen numbers. Assumes nothing.
use Rattle.std.proofs.Common.{◌≡◌, ℕ, ◌+◌, ◌≤◌, Bool, List, drop, arith}
use Rattle.shelf.specs.Numbers.{chosen}
use Rattle.timing.specs.Places.{is_above}
use denote.Enum.Bare.{sameb}
use Rattle.domains.specs.contracts.place.Place.{the_type}
use Rattle.domains.specs.declared.place.Place.{Place}
use Rattle.domains.specs.declared.place.Place.TheVariants.{Above}
use Rattle.ordering.specs.Orders.{found, examined}

-- i rows of the table are behind, n of them were examined, and none passed
pub record Looking {P : Type 0} (is : P → Bool) (p : ℕ → Bool) (ps : List P) (i n : ℕ) : Type 0 where
  pub few : n ≤ i
  pub same : found p (chosen is 0 ps) ≡ found p (chosen is i (drop i ps))
  pub count : examined p (chosen is 0 ps) ≡ n + examined p (chosen is i (drop i ps))

pub equal_above : (x : Place) → sameb the_type x Above ≡ is_above x
equal_above x = grind arith
