-- The numbers of the elements that pass, of a table and after one entry is set. Assumes nothing.
use Rattle.std.proofs.Common.{◌≡◌, ℕ, zero, suc, ◌+◌, ◌<◌, ◌≤◌, Bool, true, false, cond, List, [], ◌∷◌, map, length, get_or, drop, set, filter, sym, refl, ap, ◌∙◌, subst, add-zero, arith}
use lib.Seq.{set-get_or}
use Rattle.std.specs.List.{AllByRecursion}
use Rattle.std.proofs.ByRecursion.{All-weaker, all_kept_by}
use Rattle.std.proofs.lemmas.List.{at_drop_more}
use Rattle.std.proofs.lemmas.Bool.{cond_both, eq-eqb, ne_eqb}
use Rattle.std.proofs.lemmas.Bool.Decides.{nat_tests}
use Rattle.shelf.specs.Apart.{Apart}
use Rattle.shelf.specs.Numbers.{chosen, numbers, without}
use Rattle.shelf.specs.Picks.{Pick}
use Rattle.shelf.specs.Picks.Pick.{here, there}
use Rattle.shelf.proofs.Perms.{all_pick}

pub without_here : (x y : ℕ) (xs : List ℕ) → y ≡ x → without x (y ∷ xs) ≡ without x xs
without_here x y xs e = simp (eq-eqb y x e)

pub without_there : (x y : ℕ) (xs : List ℕ) → (y ≡ x → ⊥) → without x (y ∷ xs) ≡ y ∷ without x xs
without_there x y xs e = simp (ne_eqb y x e)

pub without_away : (x : ℕ) (xs : List ℕ) → AllByRecursion (λ y. y ≡ x → ⊥) xs → without x xs ≡ xs
without_away x [] a = refl
without_away x (y ∷ xs) a = without_there x y xs a.0 ∙ ap (λ l. y ∷ l) (without_away x xs a.1)

pub pick_is : {x : ℕ} {xs r : List ℕ} → Pick x xs r → Apart xs → without x xs ≡ r
pick_is {x} (here {y = y} {r = r} e) a = without_here x y r (sym e) ∙ without_away x r (subst (λ k. AllByRecursion (λ j. j ≡ k → ⊥) r) (sym e) a.0)
pick_is {x} (there {y = y} {xs = xs} {r = r} p) a = without_there x y xs (λ e. all_pick (λ j. j ≡ y → ⊥) a.0 p (sym e)) ∙ ap (λ l. y ∷ l) (pick_is p a.1)

pub apart_kept : (q : ℕ → Bool) (xs : List ℕ) → Apart xs → Apart (filter q xs)
apart_kept q [] a = tt
apart_kept q (x ∷ xs) a =
    cond_both (q x) _ _ Apart (λ _. (all_kept_by q (λ y. y ≡ x → ⊥) xs a.0, apart_kept q xs a.1)) (λ _. apart_kept q xs a.1)

pub chosen_from : {P : Type 0} (test : P → Bool) (i : ℕ) (ps : List P) → AllByRecursion (λ y. i ≤ y) (chosen test i ps)
chosen_from test i [] = tt
chosen_from test i (p ∷ ps) =
    let h : AllByRecursion (λ y. i ≤ y) (chosen test (i + 1) ps) = All-weaker (λ y. i + 1 ≤ y) (λ y. i ≤ y) (λ y k. omega arith) (chosen test (i + 1) ps) (chosen_from test (i + 1) ps) in
    cond_both (test p) _ _ (AllByRecursion (λ y. i ≤ y)) (λ _. (omega arith, h)) (λ _. h)

pub chosen_apart : {P : Type 0} (test : P → Bool) (i : ℕ) (ps : List P) → Apart (chosen test i ps)
chosen_apart test i [] = tt
chosen_apart test i (p ∷ ps) =
    let h : AllByRecursion (λ y. y ≡ i → ⊥) (chosen test (i + 1) ps) = All-weaker (λ y. i + 1 ≤ y) (λ y. y ≡ i → ⊥) (λ y k e. omega arith) (chosen test (i + 1) ps) (chosen_from test (i + 1) ps) in
    let k = chosen_apart test (i + 1) ps in
    cond_both (test p) _ _ Apart (λ _. (h, k)) (λ _. k)

pub length_numbers : {P : Type 0} (i : ℕ) (ps : List P) → length (numbers i ps) ≡ length ps
length_numbers i [] = refl
length_numbers i (p ∷ ps) = ap suc (length_numbers (i + 1) ps)

pub map_numbers : {F : Type 0} (f : ℕ → F) (d : F) (i : ℕ) (xs : List F) → ((k : ℕ) → k < length xs → f (i + k) ≡ get_or xs k d) → map f (numbers i xs) ≡ xs
map_numbers f d i [] h = refl
map_numbers f d i (x ∷ xs) h =
    let a : f i ≡ x = ap f (sym (add-zero i)) ∙ h 0 (omega arith) in
    let b = map_numbers f d (i + 1) xs (λ k l. let e : i + 1 + k ≡ i + suc k = omega arith in ap f e ∙ h (suc k) (omega arith)) in
    cc

-- a loop over the table
module _ {P : Type 0} (is : P → Bool) (ps : List P) (i : ℕ) (d : P) (l : i < length ps) where
  pub chosen_take : is (get_or ps i d) ≡ true → chosen is i (drop i ps) ≡ i ∷ chosen is (i + 1) (drop (i + 1) ps)
  chosen_take e = at_drop_more (chosen is i) ps i d l ∙ simp e

module _ {P : Type 0} (is : P → Bool) where
  -- the numbers after i are not i
  after : (i x : ℕ) (ps : List P) → x ≡ i → without x (chosen is (i + 1) ps) ≡ chosen is (i + 1) ps
  after i x ps e = without_away x (chosen is (i + 1) ps) (All-weaker (λ y. i + 1 ≤ y) (λ y. y ≡ x → ⊥) (λ y k f. omega arith) (chosen is (i + 1) ps) (chosen_from is (i + 1) ps))

  without_cond : (x i : ℕ) (b : Bool) (r : List ℕ) → (i ≡ x → ⊥) → without x (cond b (i ∷ r) r) ≡ cond b (i ∷ without x r) (without x r)
  without_cond x i b r n = grind (arith, nat_tests)

  without_cond_here : (x i : ℕ) (b : Bool) (r : List ℕ) → i ≡ x → without x (cond b (i ∷ r) r) ≡ without x r
  without_cond_here x i b r e = grind (arith, nat_tests)

  -- taken out of the choice
  pub chosen_out : (i k : ℕ) (ps : List P) (v : P) → is v ≡ false → k < length ps → chosen is i (set ps k v) ≡ without (i + k) (chosen is i ps)
  chosen_out i k [] v f l = refl
  chosen_out i zero (p ∷ ps) v f l =
      let a : chosen is i (v ∷ ps) ≡ chosen is (i + 1) ps = simp f in
      a ∙ sym (without_cond_here (i + 0) i (is p) (chosen is (i + 1) ps) (omega arith) ∙ after i (i + 0) ps (omega arith))
  chosen_out i (suc k) (p ∷ ps) v f l =
      let ih = chosen_out (i + 1) k ps v f (omega arith) in
      let e : i + 1 + k ≡ i + suc k = omega arith in
      let ih' : chosen is (i + 1) (set ps k v) ≡ without (i + suc k) (chosen is (i + 1) ps) = ih ∙ ap (λ x. without x (chosen is (i + 1) ps)) e in
      ap (λ r. cond (is p) (i ∷ r) r) ih' ∙ sym (without_cond (i + suc k) i (is p) (chosen is (i + 1) ps) (λ e. omega arith))

  -- put into it
  pub chosen_in : (i k : ℕ) (ps : List P) (v d : P) → is v ≡ true → is (get_or ps k d) ≡ false → k < length ps → Pick (i + k) (chosen is i (set ps k v)) (chosen is i ps)
  chosen_in i k [] v d t f l = absurd (omega arith)
  chosen_in i zero (p ∷ ps) v d t f l =
      let a : i ∷ chosen is (i + 1) ps ≡ chosen is i (v ∷ ps) = simp t in
      let b : chosen is (i + 1) ps ≡ chosen is i (p ∷ ps) = simp f in
      subst (λ r. Pick (i + 0) r (chosen is i (p ∷ ps))) a (subst (λ r. Pick (i + 0) (i ∷ chosen is (i + 1) ps) r) b (here (omega arith)))
  chosen_in i (suc k) (p ∷ ps) v d t f l =
      let e : i + 1 + k ≡ i + suc k = omega arith in
      let ih = subst (λ x. Pick x (chosen is (i + 1) (set ps k v)) (chosen is (i + 1) ps)) e (chosen_in (i + 1) k ps v d t f (omega arith)) in
      elim (is p) as (λ b. Pick (i + suc k) (cond b (i ∷ chosen is (i + 1) (set ps k v)) (chosen is (i + 1) (set ps k v))) (cond b (i ∷ chosen is (i + 1) ps) (chosen is (i + 1) ps))) [ true ↦ there ih | false ↦ ih ]

  pub chosen_away : (k : ℕ) (ps : List P) (d : P) → is (get_or ps k d) ≡ false → k < length ps → without k (chosen is 0 ps) ≡ chosen is 0 ps
  chosen_away k ps d f l =
      let e : 0 + k ≡ k = omega arith in
      sym (ap (λ x. without x (chosen is 0 ps)) e) ∙ sym (chosen_out 0 k ps (get_or ps k d) f l) ∙ ap (chosen is 0) (set-get_or ps k d)

  -- where a chosen number lies
  lies : (i : ℕ) (ps : List P) (d : P) {x : ℕ} {r : List ℕ} → Pick x (chosen is i ps) r → (k : ℕ) × (x ≡ i + k) × (k < length ps) × (is (get_or ps k d) ≡ true)
  lies i [] d p = elim p [ ]
  lies i (p ∷ ps) d {x} {r} q = go (is p) refl r q (λ r. lies (i + 1) ps d)
    where
      Lies : List P → ℕ → Type 0
      Lies l j = (k : ℕ) × (x ≡ j + k) × (k < length l) × (is (get_or l k d) ≡ true)

      more : Lies ps (i + 1) → Lies (p ∷ ps) i
      more h = (suc h.0, omega arith, omega arith, h.3)

      go : (b : Bool) → is p ≡ b → (r : List ℕ) → Pick x (cond b (i ∷ chosen is (i + 1) ps) (chosen is (i + 1) ps)) r → ((r : List ℕ) → Pick x (chosen is (i + 1) ps) r → Lies ps (i + 1)) → Lies (p ∷ ps) i
      go true e r (here f) ih = (0, omega arith, omega arith, e)
      go true e r (there {r = s} k) ih = more (ih s k)
      go false e r k ih = more (ih r k)

  pub chosen_lies : (ps : List P) (d : P) {x : ℕ} {r : List ℕ} → Pick x (chosen is 0 ps) r → (x < length ps) × (is (get_or ps x d) ≡ true)
  chosen_lies ps d {x} p =
      let h = lies 0 ps d p in
      let e : h.0 ≡ x = omega arith in
      (omega arith, ap (λ k. is (get_or ps k d)) (sym e) ∙ h.3)

  pub chosen_most : (i : ℕ) (ps : List P) → length (chosen is i ps) ≤ length ps
  chosen_most i [] = omega arith
  chosen_most i (p ∷ ps) = grind (arith, chosen_most (i + 1) ps)

-- each element has a number
pub number_in : {P : Type 0} (i n : ℕ) (ps : List P) → n < length ps → (r : List ℕ) × Pick (i + n) (numbers i ps) r
number_in i n [] l = absurd (omega arith)
number_in i zero (p ∷ ps) l = (numbers (i + 1) ps, here (add-zero i))
number_in i (suc n) (p ∷ ps) l =
    let h = number_in (i + 1) n ps (omega arith) in
    let e : i + 1 + n ≡ i + suc n = omega arith in
    (i ∷ h.0, there (subst (λ k. Pick k (numbers (i + 1) ps) h.0) e h.1))

pub numbers_below : {P : Type 0} (i : ℕ) (ps : List P) → AllByRecursion (λ n. n < i + length ps) (numbers i ps)
numbers_below i [] = tt
numbers_below i (p ∷ ps) =
    (omega arith, All-weaker (λ n. n < i + 1 + length ps) (λ n. n < i + length (p ∷ ps)) (λ n l. omega arith) (numbers (i + 1) ps) (numbers_below (i + 1) ps))
