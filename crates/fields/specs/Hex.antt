-- Numbers in hexadecimal digits. Assumes nothing.
use Rattle.std.specs.Prelude.{◌≡◌, ◌≢◌, ℕ, zero, suc, ◌+◌, ◌/◌, ◌%◌, ◌<◌, nat_lt, if◌then◌else◌, List, [], ◌∷◌, ◌++◌, Option, Some, None}

-- the byte of a digit: 0 to 9 and A to F
abbrev pub digit : ℕ → ℕ
digit d = if nat_lt d 10 then 48 + d else 55 + d

-- the last w digits of v, the highest first
unfoldable pub hex : ℕ → ℕ → List ℕ
hex zero v = []
hex (suc w) v = hex w (v / 16) ++ (digit (v % 16) ∷ [])

-- the digit that a byte stands for, or none where it stands for no digit
abbrev pub DigitOf : ℕ → Option ℕ → Type 0
DigitOf b (Some d) = (d < 16) × (b ≡ digit d)
DigitOf b None = (d : ℕ) → d < 16 → b ≢ digit d
