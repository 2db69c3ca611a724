-- What stands of a closed plan: an order, a conflict, or neither. Assumes nothing.
use Rattle.std.specs.Prelude.{ℕ, Bool, true, false, List, [], ◌==◌}
use Rattle.std.specs.List.{position_or_len, list_any}

-- by the numbers of frames: of an order from its first place on, of a conflict in list order
pub data Stands : Type 0 where
  nothing : Stands
  order : List ℕ → Stands
  conflict : List ℕ → Stands

abbrev pub is_order : Stands → Bool
is_order nothing = false
is_order (order o) = true
is_order (conflict cs) = false

abbrev pub is_conflict : Stands → Bool
is_conflict nothing = false
is_conflict (order o) = false
is_conflict (conflict cs) = true

-- the order, or no frames
abbrev pub in_order : Stands → List ℕ
in_order nothing = []
in_order (order o) = o
in_order (conflict cs) = []

-- the conflict, or no frames
abbrev pub in_conflict : Stands → List ℕ
in_conflict nothing = []
in_conflict (order o) = []
in_conflict (conflict cs) = cs

-- how many come before n
abbrev pub place_in : ℕ → List ℕ → ℕ
place_in n xs = position_or_len (λ x. x == n) xs

-- whether n is there
abbrev pub among : ℕ → List ℕ → Bool
among n xs = list_any (λ x. x == n) xs
