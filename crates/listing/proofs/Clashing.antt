-- The frames of a conflict in list order. Assumes nothing.
use Rattle.std.proofs.Common.{◌≡◌, ℕ, ◌+◌, ◌<◌, Bool, true, false, cond, not, eqb, List, [], ◌∷◌, ◌++◌, length, filter, Ok, Err, Result, sym, refl, ap, ◌∙◌, arith, append-nil}
use Rattle.std.specs.List.{AllByRecursion, flat_map, range_with_len}
use Rattle.std.specs.Result.{result_unwrap_or}
use Rattle.std.proofs.ByRecursion.{All-weaker}
use Rattle.std.proofs.lemmas.Grind.{flat_map-append}
use Rattle.std.proofs.lemmas.Bool.Decides.{nat_tests}
use Rattle.std.proofs.lemmas.Bool.{cond-true, lt-ltb}
use Rattle.shelf.specs.Numbers.{numbers}
use Rattle.packing.specs.Packings.{Packing, rows}
use Rattle.plan.specs.declared.fault.PlanFault.{PlanFault}
use Rattle.plan.specs.Banks.{Bank}
use Rattle.plan.specs.Closes.{bit, member_says}
use Rattle.plan.specs.Said.{told, unless_refused}
use Rattle.plan.specs.Said.Said.{gives}
use Rattle.plan.specs.Stands.{Stands, in_conflict, among}
use Rattle.plan.specs.Stands.Stands.{nothing, order, conflict}
use Rattle.plan.specs.Subject.{Filtered, ConflictStands}
use Rattle.plan.specs.Subject.Filtered.{seen, dropped, kept}
use Rattle.packing.proofs.Rowed.{rows_long}
use Rattle.listing.specs.Lines.{conflict_line, listing, value_said}
use Rattle.listing.proofs.Writing.{passed_more}
use Rattle.listing.specs.Tells.{ConflictRight}

-- what passes two tests one after another
filter_both : (q r : ℕ → Bool) (xs : List ℕ) → filter q (filter r xs) ≡ filter (λ x. cond (r x) (q x) false) xs
filter_both q r [] = refl
filter_both q r (x ∷ xs) = grind (arith, filter_both q r xs)

-- what the deletion filter leaves passes some test
module _ (m : Bank) (p : Packing) where
  passing : {xs cs out : List ℕ} → Filtered m p xs cs out → (q : ℕ → Bool) × (out ≡ filter q cs)
  passing {cs = cs} seen = (λ _. true, sym (all_pass cs))
    where
      all_pass : (xs : List ℕ) → filter (λ _. true) xs ≡ xs
      all_pass [] = refl
      all_pass (x ∷ xs) = ap (λ l. x ∷ l) (all_pass xs)
  passing (dropped {x = x} {cs = cs} h f) =
      let k = passing f in
      (λ y. cond (not (eqb y x)) (k.0 y) false, k.1 ∙ filter_both k.0 (λ y. not (eqb y x)) cs)
  passing (kept h f) = passing f

-- whether n is in what passes
among_filter : (q : ℕ → Bool) (n : ℕ) (xs : List ℕ) → among n (filter q xs) ≡ cond (among n xs) (q n) false
among_filter q n [] = refl
among_filter q n (x ∷ xs) = grind (arith, nat_tests, among_filter q n xs)

among_here : (n : ℕ) (xs : List ℕ) → among n (n ∷ xs) ≡ true
among_here n xs = grind (arith, nat_tests)

-- the elements of ys among those that pass
same_filter : (q r : ℕ → Bool) (ys : List ℕ) → AllByRecursion (λ n. r n ≡ q n) ys → filter r ys ≡ filter q ys
same_filter q r [] h = refl
same_filter q r (y ∷ ys) h = grind (arith, h.0, same_filter q r ys h.1)

all_among : (xs : List ℕ) → AllByRecursion (λ n. among n xs ≡ true) xs
all_among [] = tt
all_among (x ∷ xs) = (among_here x xs, All-weaker (λ n. among n xs ≡ true) (λ n. among n (x ∷ xs) ≡ true) (λ n h. grind (arith, nat_tests, h)) xs (all_among xs))

counted : {P : Type 0} (i : ℕ) (ps : List P) → numbers i ps ≡ range_with_len i (length ps)
counted i [] = refl
counted i (p ∷ ps) = ap (λ l. i ∷ l) (counted (i + 1) ps)

bit_apart : (a b : Bool) → bit a ≡ bit b → a ≡ b
bit_apart true true e = refl
bit_apart true false e = absurd (let no : ⊥ = omega (arith, e) in no)
bit_apart false true e = absurd (let no : ⊥ = omega (arith, e) in no)
bit_apart false false e = refl

read_bit : (r : Result Bool PlanFault) (b : Bool) → told (λ b. bit b ∷ []) r ≡ gives (bit b ∷ []) → result_unwrap_or r false ≡ b
read_bit (Ok a) b e = bit_apart a b (ap value_said e)
read_bit (Err f) b e = cc

module _ (m : Bank) (p : Packing) where
  -- the frames of a conflict are those that are in it, in list order
  pub in_list_order : (cs : List ℕ) → ConflictStands m p cs → filter (λ n. among n cs) (range_with_len 0 p.frames) ≡ cs
  in_list_order cs h =
      let ns = range_with_len 0 p.frames in
      let k = passing m p h.filtered in
      let q = k.0 in
      let all : numbers 0 (rows p) ≡ ns = counted 0 (rows p) ∙ ap (range_with_len 0) (rows_long p.signals p.frames) in
      let e : cs ≡ filter q ns = k.1 ∙ ap (filter q) all in
      let same = All-weaker (λ n. among n ns ≡ true) (λ n. among n cs ≡ q n) (λ n h. ap (among n) e ∙ among_filter q n ns ∙ cond-true _ _ _ h) ns (all_among ns) in
      same_filter q (λ n. among n cs) ns same ∙ sym e

  pub listed_all : (st : Stands) → ConflictRight m p st → flat_map (conflict_line p) (filter (λ n. among n (in_conflict st)) (range_with_len 0 p.frames)) ≡ listing m p st
  listed_all nothing h = absurd h
  listed_all (order o) h = absurd h
  listed_all (conflict cs) h = ap (flat_map (conflict_line p)) (in_list_order cs h)

  -- whether frame n is in it, as it is read
  pub member_read : (st : Stands) → ConflictRight m p st → (n : ℕ) → n < p.frames → (r : Result Bool PlanFault) → told (λ b. bit b ∷ []) r ≡ member_says p st n → result_unwrap_or r false ≡ among n (in_conflict st)
  member_read nothing h n l r e = absurd h
  member_read (order o) h n l r e = absurd h
  member_read (conflict cs) h n l r e = read_bit r (among n cs) (e ∙ ap (unless_refused (bit (among n cs) ∷ [])) (cond-true _ _ _ (lt-ltb n p.frames l)))

-- one line more
module _ (f : ℕ → List ℕ) (q : ℕ → Bool) (n : ℕ) where
  lines_more : flat_map f (filter q (range_with_len 0 (n + 1))) ≡ flat_map f (filter q (range_with_len 0 n)) ++ flat_map f (cond (q n) (n ∷ []) [])
  lines_more = ap (flat_map f) (passed_more q n) ∙ flat_map-append f (filter q (range_with_len 0 n)) (cond (q n) (n ∷ []) [])

  pub line_in : q n ≡ true → flat_map f (filter q (range_with_len 0 (n + 1))) ≡ flat_map f (filter q (range_with_len 0 n)) ++ f n
  line_in e = lines_more ∙ ap (λ b. flat_map f (filter q (range_with_len 0 n)) ++ flat_map f (cond b (n ∷ []) [])) e ∙ ap (λ l. flat_map f (filter q (range_with_len 0 n)) ++ l) (append-nil (f n))

  pub line_out : q n ≡ false → flat_map f (filter q (range_with_len 0 (n + 1))) ≡ flat_map f (filter q (range_with_len 0 n))
  line_out e = lines_more ∙ ap (λ b. flat_map f (filter q (range_with_len 0 n)) ++ flat_map f (cond b (n ∷ []) [])) e ∙ append-nil (flat_map f (filter q (range_with_len 0 n)))
