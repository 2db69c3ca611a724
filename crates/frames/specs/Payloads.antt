-- The payload that a fill takes. Assumes nothing.
use Rattle.std.specs.Prelude.{◌≡◌, ℕ, ◌≤◌, Bool, true, false, ◌&&◌, ◌||◌, List, [], ◌∷◌, Some, None, Option, ◌==◌, nat_le}
use Rattle.shelf.specs.Smallest.{smallest}

-- the payload sizes of CAN FD
abbrev pub sizes : List ℕ
sizes = 0 ∷ 1 ∷ 2 ∷ 3 ∷ 4 ∷ 5 ∷ 6 ∷ 7 ∷ 8 ∷ 12 ∷ 16 ∷ 20 ∷ 24 ∷ 32 ∷ 48 ∷ 64 ∷ []

abbrev pub one_of : ℕ → List ℕ → Bool
one_of s [] = false
one_of s (x ∷ xs) = s == x || one_of s xs

-- s is a payload size that is not below the fill
abbrev pub Fits : ℕ → ℕ → Type 0
Fits fill s = (one_of s sizes ≡ true) × (fill ≤ s)

abbrev pub or_full : Option ℕ → ℕ
or_full (Some s) = s
or_full None = 64

-- the smallest payload size that is not below the fill (which no record has above 64)
unfoldable pub payload : ℕ → ℕ
payload fill = or_full (smallest (λ s. one_of s sizes && nat_le fill s) 0 64)
