-- The lines that tell a plan, byte for byte. Assumes nothing.
use Rattle.std.specs.Prelude.{ℕ, List, [], ◌∷◌, ◌++◌, map, filter, codes}
use Rattle.std.specs.List.{flat_map}
use Rattle.fields.specs.Fields.{fields}
use Rattle.fields.specs.Hex.{hex}
use Rattle.frames.specs.declared.row.Row.{Row}
use Rattle.frames.specs.Payloads.{payload}
use Rattle.packing.specs.Packings.{Packing, row}
use Rattle.timing.specs.Carried.{in_set}
use Rattle.timing.specs.Everywhere.{four}
use Rattle.plan.specs.Banks.{Bank}
use Rattle.plan.specs.Closes.{identifier_says, response_says}
use Rattle.plan.specs.Said.{Said}
use Rattle.plan.specs.Said.Said.{gives, refuses}
use Rattle.plan.specs.Stands.{Stands}
use Rattle.plan.specs.Stands.Stands.{nothing, order, conflict}

-- what ends a line
abbrev pub feed : List ℕ
feed = 10 ∷ []

-- the value that a reading gives, or 0 where it is refused
abbrev pub value_said : Said → ℕ
value_said (gives []) = 0
value_said (gives (v ∷ vs)) = v
value_said (refuses f) = 0

-- the fields of a frame's row: sender, payload, period, deadline and set
abbrev pub row_widths : List ℕ
row_widths = 1 ∷ 2 ∷ 8 ∷ 8 ∷ 1 ∷ []

abbrev pub row_values : Row → List ℕ
row_values r = r.sender ∷ payload r.fill ∷ r.period ∷ r.deadline ∷ r.set ∷ []

abbrev pub row_text : Row → List ℕ
row_text r = fields row_widths (row_values r)

-- the domains of a set, lowest first
abbrev pub domains_of : ℕ → List ℕ
domains_of set = filter (λ k. in_set k set) four

-- what is read of frame n in each domain of a set
abbrev pub times_in : Bank → Packing → Stands → ℕ → ℕ → List ℕ
times_in m p st n set = map (λ k. value_said (response_says m p st n k)) (domains_of set)

abbrev pub times_widths : List ℕ → List ℕ
times_widths ts = map (λ _. 8) ts

abbrev pub times_text : List ℕ → List ℕ
times_text ts = fields (times_widths ts) ts

-- the line of frame n in the order that stands
unfoldable pub order_line : Bank → Packing → Stands → ℕ → List ℕ
order_line m p st n = hex 3 (value_said (identifier_says p st n)) ++ row_text (row p n) ++ times_text (times_in m p st n (row p n).set) ++ feed

-- the line of frame n in the conflict that stands
unfoldable pub conflict_line : Packing → ℕ → List ℕ
conflict_line p n = codes "FFF" ++ row_text (row p n) ++ feed

-- the line of a fault by its number, with its place in a sheet
abbrev pub fault_line : ℕ → ℕ → ℕ → List ℕ
fault_line number line field = codes "EEE" ++ fields (2 ∷ 4 ∷ 1 ∷ []) (number ∷ line ∷ field ∷ []) ++ feed

-- a line for each frame of the order, or of the conflict
abbrev pub listing : Bank → Packing → Stands → List ℕ
listing m p nothing = []
listing m p (order o) = flat_map (order_line m p (order o)) o
listing m p (conflict cs) = flat_map (conflict_line p) cs
