-- The form of a sheet's lines, and a sheet written out. Assumes nothing.
use Rattle.std.specs.Prelude.{ℕ, List, [], ◌∷◌, ◌++◌}
use Rattle.fields.specs.Fields.{fields}
use Rattle.sheet.specs.declared.kind.Kind.{Kind}
use Rattle.sheet.specs.declared.kind.Kind.TheVariants.{Bus, Gateway, Radio, Signal}

-- the bytes of the letters C, G, R and S
abbrev pub letter : Kind → ℕ
letter Bus = 67
letter Gateway = 71
letter Radio = 82
letter Signal = 83

-- a line's letter, and how many digits each of its fields has
pub record Form : Type 0 where
  pub first : ℕ
  pub widths : List ℕ

abbrev pub form : Kind → List ℕ → Form
form k ws = record { first = letter k; widths = ws }

-- arbitration and data bit time
abbrev pub bus_form : Form
bus_form = form Bus (8 ∷ 8 ∷ [])

-- fixed and byte time
abbrev pub gateway_form : Form
gateway_form = form Gateway (8 ∷ 8 ∷ [])

-- byte time
abbrev pub radio_form : Form
radio_form = form Radio (8 ∷ [])

-- name, sender, size, period, deadline and domain set
abbrev pub signal_form : Form
signal_form = form Signal (4 ∷ 1 ∷ 2 ∷ 8 ∷ 8 ∷ 1 ∷ [])

-- a line with such values: its letter, its fields, a line feed
abbrev pub line : Form → List ℕ → List ℕ
line f vs = f.first ∷ (fields f.widths vs ++ (10 ∷ []))
