-- Hexadecimal digits: how many there are, that they mean one number, and how one more is read or written.
-- Assumes nothing.
use Rattle.std.proofs.Common.{◌≡◌, ℕ, zero, suc, ◌+◌, ◌-◌, ◌*◌, ◌/◌, ◌%◌, ◌^◌, ◌<◌, ◌≤◌, List, [], ◌∷◌, ◌++◌, length, drop, set, refl, sym, ap, ◌∙◌, arith, append_assoc, add-one}
use Rattle.std.proofs.Math.Nat.{pow-suc, pow-le-pow_right}
use Rattle.std.proofs.lemmas.List.{length_push, append-nil, drop_at, drop-set}
use Rattle.std.proofs.lemmas.Bool.Decides.{nat_tests}
use Rattle.fields.specs.Hex.{digit, hex}

pub hex_length : (w v : ℕ) → length (hex w v) ≡ w
unfolding hex
hex_length zero v = refl
hex_length (suc w) v = omega (arith, length_push (hex w (v / 16)) (digit (v % 16)), hex_length w (v / 16))

pub digit_apart : (d e : ℕ) → d < 16 → e < 16 → digit d ≡ digit e → d ≡ e
digit_apart d e l m h = grind (arith, nat_tests)

-- the same digits stand for the same number, whatever follows them
pub hex_apart : (w v u : ℕ) (r q : List ℕ) → v < 16 ^ w → u < 16 ^ w → hex w v ++ r ≡ hex w u ++ q → (v ≡ u) × (r ≡ q)
unfolding hex
hex_apart zero v u r q l m h = (omega arith, h)
hex_apart (suc w) v u r q l m h =
    let e : hex w (v / 16) ++ (digit (v % 16) ∷ r) ≡ hex w (u / 16) ++ (digit (u % 16) ∷ q) =
    sym (append_assoc (hex w (v / 16)) (digit (v % 16) ∷ []) r) ∙ h ∙ append_assoc (hex w (u / 16)) (digit (u % 16) ∷ []) q in
    let l₁ = rw pow-suc at l in
    let m₁ = rw pow-suc at m in
    let above = hex_apart w (v / 16) (u / 16) (digit (v % 16) ∷ r) (digit (u % 16) ∷ q) (omega arith) (omega arith) e in
    let last : digit (v % 16) ≡ digit (u % 16) = cc above.1 in
    let same = digit_apart (v % 16) (u % 16) (omega arith) (omega arith) last in
    (omega arith, cc above.1)

-- one digit more
pub hex_more : (i v d : ℕ) → d < 16 → hex (i + 1) (v * 16 + d) ≡ hex i v ++ (digit d ∷ [])
unfolding hex
hex_more i v d l =
    let high : (v * 16 + d) / 16 ≡ v = omega arith in
    let low : (v * 16 + d) % 16 ≡ d = omega arith in
    rw (add-one, high, low) refl

-- the first i of w digits
hex_cut : (i k w v : ℕ) → w ≡ i + k → (u : ℕ) × (hex w v ≡ hex i u ++ hex k v)
unfolding hex
hex_cut i zero w v e =
    let same : w ≡ i = omega arith in
    (v, ap (λ n. hex n v) same ∙ sym (append-nil (hex i v)))
hex_cut i (suc k) zero v e = absurd (omega arith)
hex_cut i (suc k) (suc w) v e =
    let above = hex_cut i k w (v / 16) (omega arith) in
    (above.0, ap (λ t. t ++ (digit (v % 16) ∷ [])) above.1 ∙ append_assoc (hex i above.0) (hex k (v / 16)) (digit (v % 16) ∷ []))

-- the first byte of some digits is that of a digit
abbrev pub StartsWithDigit : List ℕ → Type 0
StartsWithDigit s = (d : ℕ) × (t : List ℕ) × (d < 16) × (s ≡ digit d ∷ t)

hex_first : (k v : ℕ) (r : List ℕ) → StartsWithDigit (hex (suc k) v ++ r)
unfolding hex
hex_first zero v r = (v % 16, r, omega arith, refl)
hex_first (suc k) v r =
    let above = hex_first k (v / 16) (digit (v % 16) ∷ r) in
    (above.0, above.1, above.2, append_assoc (hex (suc k) (v / 16)) (digit (v % 16) ∷ []) r ∙ above.3)

-- where w digits are written, and i of them are read, a digit follows
pub digit_follows : (i w v u : ℕ) (rest r : List ℕ) → i < w → hex i u ++ rest ≡ hex w v ++ r → StartsWithDigit rest
digit_follows i w v u rest r l h =
    let k = w - (i + 1) in
    let cut = hex_cut i (suc k) w v (omega arith) in
    let first = hex_first k v r in
    let left : drop i (hex i u ++ rest) ≡ rest = drop_at (hex i u) rest i (hex_length i u) in
    let right : drop i (hex i cut.0 ++ (hex (suc k) v ++ r)) ≡ hex (suc k) v ++ r = drop_at (hex i cut.0) (hex (suc k) v ++ r) i (hex_length i cut.0) in
    let same : hex w v ++ r ≡ hex i cut.0 ++ (hex (suc k) v ++ r) = ap (λ t. t ++ r) cut.1 ∙ append_assoc (hex i cut.0) (hex (suc k) v) r in
    (first.0, first.1, first.2, sym left ∙ ap (drop i) (h ∙ same) ∙ right ∙ first.3)

-- i digits of a text are read
pub record DigitsRead (s : List ℕ) (i v : ℕ) (rest : List ℕ) : Type 0 where
  pub low : v < 16 ^ i
  pub is : s ≡ hex i v ++ rest

pub digits_none : (s : List ℕ) → DigitsRead s 0 0 s
unfolding hex
digits_none s = record { low = omega arith; is = refl }

pub digits_one_more : (s : List ℕ) (i v d : ℕ) (rest after : List ℕ) → DigitsRead s i v rest → d < 16 → rest ≡ digit d ∷ after → DigitsRead s (i + 1) (v * 16 + d) after
digits_one_more s i v d rest after r l h = record {
  low = let low = r.low in rw (add-one, pow-suc) (omega arith);
  is = r.is ∙ ap (λ t. hex i v ++ t) h ∙ sym (append_assoc (hex i v) (digit d ∷ []) after) ∙ ap (λ t. t ++ after) (sym (hex_more i v d l));
}

-- the number with one digit more is in range
pub digits_fit : (s : List ℕ) (i w v : ℕ) (rest : List ℕ) → DigitsRead s i v rest → i < w → w ≤ 8 → v * 16 + 15 < 2 ^ 32
digits_fit s i w v rest r l m =
    let few : i ≤ 7 = omega arith in
    let p : 16 ^ i ≤ 16 ^ 7 = pow-le-pow_right {n = 16} (omega arith) few in
    let low = r.low in
    omega arith

-- where no digit follows, no more digits are written there
pub digits_stop : (s : List ℕ) (i w v : ℕ) (rest : List ℕ) → DigitsRead s i v rest → i < w → ((d : ℕ) (t : List ℕ) → d < 16 → rest ≡ digit d ∷ t → ⊥) → (u : ℕ) (r : List ℕ) → u < 16 ^ w → s ≡ hex w u ++ r → ⊥
digits_stop s i w v rest read l none u r m h =
    let next = digit_follows i w u v rest r l (sym read.is ∙ h) in
    none next.0 next.1 next.2 next.3

-- the next digit from the end is written
pub hex_written : (i v b : ℕ) (text : List ℕ) → 0 < i → i ≤ length text → b ≡ digit (v % 16) → hex (i - 1) (v / 16) ++ drop (i - 1) (set text (i - 1) b) ≡ hex i v ++ drop i text
unfolding hex
hex_written zero v b text m l e = absurd (omega arith)
hex_written (suc i) v b text m l e =
    let before : suc i - 1 ≡ i = omega arith in
    let placed : drop i (set text i b) ≡ b ∷ drop (suc i) text = rw (← add-one) (drop-set text i b (omega arith)) in
    rw before (ap (λ t. hex i (v / 16) ++ t) (placed ∙ ap (λ y. y ∷ drop (suc i) text) e) ∙ sym (append_assoc (hex i (v / 16)) (digit (v % 16) ∷ []) (drop (suc i) text)))
