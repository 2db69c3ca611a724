-- When two places are equal. Assumes nothing.
use Rattle.std.proofs.Common.{◌≡◌, arith}
use denote.Enum.Bare.{sameb}
use Rattle.domains.specs.contracts.place.Place.{the_type}
use Rattle.domains.specs.declared.place.Place.{Place}
use Rattle.domains.specs.Asked.{same}

pub same_is : (a b : Place) → sameb the_type a b ≡ same a b
same_is a b = grind arith
