-- The payload of a fill: the first of the rising sizes that is not below it is the smallest that fits. Assumes nothing.
use Rattle.std.proofs.Common.{◌≡◌, ℕ, ◌<◌, ◌≤◌, Bool, true, false, cond, ◌&&◌, eqb, leb, List, [], ◌∷◌, is_some, Some, None, Decides, Option, refl, ap, subst₂, le_refl, arith, rules}
use Rattle.std.specs.List.{AllByRecursion, find}
use Rattle.std.proofs.lemmas.Bool.{or_left, or_right, eq-eqb, le-leb, leb-true, leb-false}
use Rattle.std.proofs.lemmas.Bool.Decides.{nat_tests, Decides-and}
use Rattle.shelf.specs.Smallest.{Smallest, smallest}
use Rattle.shelf.proofs.Solutions.{smallest_is, smallest_unique}
use Rattle.frames.specs.Payloads.{sizes, one_of, Fits, or_full, payload}

-- each number is no more than those behind it
abbrev Rising : List ℕ → Type 0
Rising [] = Unit {0}
Rising (x ∷ xs) = AllByRecursion (λ y. x ≤ y) xs × Rising xs

all_one_of : (P : ℕ → Type 0) (xs : List ℕ) → AllByRecursion P xs → (s : ℕ) → one_of s xs ≡ true → P s
all_one_of P [] a s e = grind arith
all_one_of P (x ∷ xs) a s e = grind (arith, nat_tests, all_one_of P xs a.1 s)

-- of the sizes of a list
abbrev FitsIn : List ℕ → ℕ → ℕ → Type 0
FitsIn xs n s = (one_of s xs ≡ true) × (n ≤ s)

-- the first of a rising list that is not below n is the smallest
first_is : (xs : List ℕ) (n : ℕ) → Rising xs → AllByRecursion (λ x. x ≤ 64) xs → Smallest (FitsIn xs n) 0 64 (find (λ x. leb n x) xs)
first_is [] n r a = λ v l h p. grind arith
first_is (x ∷ xs) n r a = by (leb n x) refl (find (λ y. leb n y) xs) (first_is xs n r.1 a.1)
  where
    behind : x < n → (v : ℕ) → FitsIn (x ∷ xs) n v → FitsIn xs n v
    behind h v p = grind (arith, nat_tests)

    rest : x < n → (o : Option ℕ) → Smallest (FitsIn xs n) 0 64 o → Smallest (FitsIn (x ∷ xs) n) 0 64 o
    rest h (Some w) s = (s.0, s.1, (or_right (eqb w x) (one_of w xs) s.2.0, s.2.1), λ v l m p. s.3 v l m (behind h v p))
    rest h None s = λ v l m p. s v l m (behind h v p)

    first : n ≤ x → (v : ℕ) → v < x → FitsIn (x ∷ xs) n v → ⊥
    first h v l p = grind (arith, nat_tests, all_one_of (λ y. x ≤ y) xs r.0 v)

    by : (b : Bool) → leb n x ≡ b → (o : Option ℕ) → Smallest (FitsIn xs n) 0 64 o → Smallest (FitsIn (x ∷ xs) n) 0 64 (cond b (Some x) o)
    by true e o s = let h = leb-true n x e in (omega arith, a.0, (or_left (eqb x x) (one_of x xs) (eq-eqb x x refl), h), λ v l m p. first h v m p)
    by false e o s = rest (leb-false n x e) o s

pub find_fits : (n : ℕ) → Smallest (Fits n) 0 64 (find (λ s. leb n s) sizes)
find_fits n =
    first_is sizes n
    (search rules)
    (omega arith)

-- the payload by its definition
fits_test : (n s : ℕ) → Decides (one_of s sizes && leb n s) (Fits n s)
fits_test n s = Decides-and (one_of s sizes) (leb n s) (λ e. e, λ e. e) (leb-true n s, le-leb n s)

by_test : (n : ℕ) → Smallest (Fits n) 0 64 (smallest (λ s. one_of s sizes && leb n s) 0 64)
by_test n = smallest_is (Fits n) (λ s. one_of s sizes && leb n s) (fits_test n) 0 64 (omega arith)

-- what is the smallest that fits is the payload
pub payload_is : (n : ℕ) (o : Option ℕ) → Smallest (Fits n) 0 64 o → or_full o ≡ payload n
unfolding payload
payload_is n o s =
    ap or_full (smallest_unique (Fits n) 0 64 o (smallest (λ s. one_of s sizes && leb n s) 0 64) s (by_test n))

-- a fill of at most 64 has one
pub fits_some : (n : ℕ) → n ≤ 64 → (o : Option ℕ) → Smallest (Fits n) 0 64 o → is_some o ≡ true
fits_some n h (Some w) s = refl
fits_some n h None s = absurd (s 64 (omega arith) (le_refl 64) (refl, h))

low_by : (n : ℕ) (o : Option ℕ) → Smallest (Fits n) 0 64 o → or_full o ≤ 64
low_by n o s = grind arith

pub payload_le : (n : ℕ) → payload n ≤ 64
unfolding payload
payload_le n = low_by n (smallest (λ s. one_of s sizes && leb n s) 0 64) (by_test n)

-- a larger fill takes no smaller payload
fits_mono : (n m : ℕ) → n ≤ m → (o u : Option ℕ) → Smallest (Fits n) 0 64 o → Smallest (Fits m) 0 64 u → or_full o ≤ or_full u
fits_mono n m h o u a b = grind arith

pub payload_mono : (n m : ℕ) → n ≤ m → payload n ≤ payload m
payload_mono n m h =
    subst₂ ◌≤◌ (payload_is n (find (λ s. leb n s) sizes) (find_fits n)) (payload_is m (find (λ s. leb m s) sizes) (find_fits m)) (fits_mono n m h (find (λ s. leb n s) sizes) (find (λ s. leb m s) sizes) (find_fits n) (find_fits m))
