-- What is written means one thing. Assumes nothing.
use Rattle.std.specs.Prelude.{◌≡◌, ℕ, ◌^◌, ◌<◌, ◌∷◌, ◌++◌, List, length, Result, Ok}
use Rattle.fields.specs.declared.reading.FieldFault.{FieldFault}
use Rattle.fields.specs.Hex.{hex}
use Rattle.fields.specs.Fields.{fields, AllFit, LineEnd}

pub record OneMeaning : Type 0 where
  -- a number is written in exactly so many digits
  pub exact : (w v : ℕ) → length (hex w v) ≡ w
  -- the same digits are those of one number, and the same fields those of one list of values, whatever follows them
  pub one_number : (w v u : ℕ) (rest more : List ℕ) → v < 16 ^ w → u < 16 ^ w → hex w v ++ rest ≡ hex w u ++ more → (v ≡ u) × (rest ≡ more)
  pub one_list : (ws vs us rest more : List ℕ) → AllFit ws vs → AllFit ws us → fields ws vs ++ rest ≡ fields ws us ++ more → (vs ≡ us) × (rest ≡ more)
  -- what is written is read back as its values
  pub read_back : (ws vs rest : List ℕ) → AllFit ws vs → LineEnd ws (fields ws vs ++ (10 ∷ rest)) (Ok (vs, rest))
  -- texts that are read as the same values, with the same rest, are the same
  pub one_text : (ws s t : List ℕ) (read : List ℕ × List ℕ) → LineEnd ws s (Ok read) → LineEnd ws t (Ok read) → s ≡ t
  -- a text is read in one way: as these values, or as this fault
  pub one_reading : (ws s : List ℕ) (r q : Result (List ℕ × List ℕ) FieldFault) → LineEnd ws s r → LineEnd ws s q → r ≡ q
