-- Refusals by their numbers, and what the making of a domain answers. Assumes nothing.
use Rattle.std.specs.Prelude.{◌≡◌, ℕ, ◌+◌, Bool, cond, ◌&&◌, List, [], ◌∷◌, map, Some, None, Ok, Err, Option, Result, nat_le}
use Rattle.domains.specs.declared.fault.DomainFault.{DomainFault}
use Rattle.domains.specs.declared.fault.DomainFault.TheVariants.{FirstFigure, SecondFigure}

-- a refusal as users see it: its number, and its values
pub record Refusal : Type 0 where
  pub number : ℕ
  pub values : List ℕ

-- the refusal of the figure with this number
abbrev pub outside : ℕ → Refusal
outside n = record { number = 1; values = n ∷ [] }

-- each fault's number and values
abbrev pub domain_told : DomainFault → Refusal
domain_told FirstFigure = outside 1
domain_told SecondFigure = outside 2

-- a figure that a domain is made from, and its limits
pub record Limited : Type 0 where
  pub low : ℕ
  pub value : ℕ
  pub high : ℕ

abbrev pub limited : ℕ → ℕ → ℕ → Limited
limited low value high = record { low = low; value = value; high = high }

abbrev inside : Limited → Bool
inside g = nat_le g.low g.value && nat_le g.value g.high

-- the refusal of the first figure outside its limits, where they are counted on from n
abbrev pub first_outside : ℕ → List Limited → Option Refusal
first_outside n [] = None
first_outside n (g ∷ gs) = cond (inside g) (first_outside (n + 1) gs) (Some (outside n))

-- what the making of a domain answers: a domain with the figures asked for, or the refusal of the first that is
-- outside its limits
abbrev pub Made : {D : Type 0} → (D → List ℕ) → List Limited → Result D DomainFault → Type 0
Made figures wanted (Ok d) = (figures d ≡ map (λ g. g.value) wanted) × (first_outside 1 wanted ≡ None)
Made figures wanted (Err e) = first_outside 1 wanted ≡ Some (domain_told e)
