-- Fields in lines: what is written, and what reading it comes to. The text of a line is here what follows its letter.
-- Assumes nothing.
use Rattle.std.specs.Prelude.{◌≡◌, ◌≢◌, ℕ, suc, ◌-◌, ◌^◌, ◌<◌, ◌≤◌, List, [], ◌∷◌, ◌++◌, length, take, Option, Some, None, Result, Ok, Err}
use Rattle.std.specs.Borrow.{Bor}
use Rattle.fields.specs.declared.reading.FieldFault.{FieldFault}
use Rattle.fields.specs.declared.reading.FieldFault.TheVariants.{Digits, Feed}
use Rattle.fields.specs.Hex.{hex}

-- fields of such widths with such values, one space before each
abbrev pub fields : List ℕ → List ℕ → List ℕ
fields [] vs = []
fields (w ∷ ws) [] = []
fields (w ∷ ws) (v ∷ vs) = 32 ∷ (hex w v ++ fields ws vs)

-- so many values, each of which has so many digits
abbrev pub AllFit : List ℕ → List ℕ → Type 0
AllFit [] [] = Unit {0}
AllFit [] (v ∷ vs) = ⊥
AllFit (w ∷ ws) [] = ⊥
AllFit (w ∷ ws) (v ∷ vs) = (v < 16 ^ w) × AllFit ws vs

-- the text begins with the first k fields
pub record Begins (ws : List ℕ) (k : ℕ) (s : List ℕ) : Type 0 where
  pub values : List ℕ
  pub rest : List ℕ
  pub fit : AllFit (take k ws) values
  pub is : s ≡ fields (take k ws) values ++ rest

-- what reading fields and the line feed after them comes to: the values and what follows, or the first field at fault
abbrev pub LineEnd : List ℕ → List ℕ → Result (List ℕ × List ℕ) FieldFault → Type 0
LineEnd ws s (Ok read) = AllFit ws read.0 × (s ≡ fields ws read.0 ++ (10 ∷ read.1))
LineEnd ws s (Err (Digits k)) = (1 ≤ k) × (k ≤ length ws) × Begins ws (k - 1) s × (Begins ws k s → ⊥)
LineEnd ws s (Err (Feed k)) =
    (k ≡ suc (length ws)) × Begins ws (length ws) s × ((values rest : List ℕ) → AllFit ws values → s ≢ fields ws values ++ (10 ∷ rest))

-- what a function answers, with the text behind the reference
abbrev pub ended : Result (List ℕ × Bor (List ℕ)) FieldFault → Result (List ℕ × List ℕ) FieldFault
ended (Ok read) = Ok (read.0, read.1.now)
ended (Err fault) = Err fault

-- what reading one number below a bound comes to, which is written so: the number and what follows it, or none where
-- no such number is written there
abbrev pub NumberRead : (ℕ → List ℕ) → ℕ → List ℕ → Option (ℕ × Bor (List ℕ)) → Type 0
NumberRead written bound s (Some read) = (read.0 < bound) × (s ≡ written read.0 ++ read.1.now)
NumberRead written bound s None = (v : ℕ) (rest : List ℕ) → v < bound → s ≢ written v ++ rest
