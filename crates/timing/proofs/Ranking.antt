-- A table of places for frames in order of priority tells of the frames before and after. Assumes nothing.
use Rattle.std.proofs.Common.{◌≡◌, ℕ, zero, suc, ◌+◌, ◌<◌, ◌≤◌, Bool, true, false, cond, ◌&&◌, ltb, leb, List, [], ◌∷◌, ◌++◌, length, get_or, take, drop, None, filter, Option, sym, refl, ap, ◌∙◌, ap₂, arith}
use Rattle.std.proofs.lemmas.Grind.{common_steps}
use Rattle.std.proofs.lemmas.List.{get_or_at, take_at, length-append}
use Rattle.std.proofs.lemmas.Bool.{cond-true, cond-false, and_from, and_left, and_right, le-leb, lt-leb, lt-ltb, le-ltb}
use Rattle.std.proofs.lemmas.Bool.Decides.{nat_tests}
use Rattle.frames.specs.declared.row.Row.{Row}
use Rattle.domains.specs.declared.place.Place.{Place}
use Rattle.domains.specs.declared.place.Place.TheVariants.{Above, Below, Absent}
use Rattle.domains.specs.Asked.{same, stance, picked, standing, reply, no_row}
use Rattle.timing.specs.Carried.{carried}
use Rattle.timing.specs.Everywhere.{response_in}
use Rattle.timing.specs.Places.{row_at, rows_above, rows_below}
use Rattle.timing.specs.Ranked.{response_at}
use Rattle.timing.proofs.Telling.{standing_above, standing_below}

ltb_suc : (i f : ℕ) → ltb (suc i) (suc f) ≡ ltb i f
ltb_suc i f = grind (arith, nat_tests)

-- what is picked by number is what lies before, or behind, that number
none : {X : Type 0} (t : ℕ → Bool) (xs : List X) → ((i : ℕ) → i < length xs → t i ≡ false) → picked t xs ≡ []
none t [] h = refl
none t (x ∷ xs) h = cond-false (t 0) _ _ (h 0 (omega arith)) ∙ none (λ i. t (suc i)) xs (λ i l. h (suc i) (omega arith))

all : {X : Type 0} (t : ℕ → Bool) (xs : List X) → ((i : ℕ) → i < length xs → t i ≡ true) → picked t xs ≡ xs
all t [] h = refl
all t (x ∷ xs) h =
    cond-true (t 0) _ _ (h 0 (omega arith)) ∙ ap (λ l. x ∷ l) (all (λ i. t (suc i)) xs (λ i l. h (suc i) (omega arith)))

before : {X : Type 0} (t : ℕ → Bool) (xs : List X) (f : ℕ) → ((i : ℕ) → i < length xs → t i ≡ ltb i f) → picked t xs ≡ take f xs
before t [] zero h = refl
before t [] (suc f) h = refl
before t (x ∷ xs) zero h = none t (x ∷ xs) (λ i l. h i l ∙ le-ltb i 0 (omega arith))
before t (x ∷ xs) (suc f) h =
    cond-true (t 0) _ _ (h 0 (omega arith) ∙ lt-ltb 0 (suc f) (omega arith)) ∙ ap (λ l. x ∷ l) (before (λ i. t (suc i)) xs f (λ i l. h (suc i) (omega arith) ∙ ltb_suc i f))

after : {X : Type 0} (t : ℕ → Bool) (xs : List X) (f : ℕ) → ((i : ℕ) → i < length xs → t i ≡ ltb f i) → picked t xs ≡ drop (suc f) xs
after t [] f h = refl
after t (x ∷ xs) zero h =
    cond-false (t 0) _ _ (h 0 (omega arith)) ∙ all (λ i. t (suc i)) xs (λ i l. h (suc i) (omega arith) ∙ lt-ltb 0 (suc i) (omega arith))
after t (x ∷ xs) (suc f) h =
    cond-false (t 0) _ _ (h 0 (omega arith) ∙ le-ltb (suc f) 0 (omega arith)) ∙ after (λ i. t (suc i)) xs f (λ i l. h (suc i) (omega arith) ∙ ltb_suc f i)

module _ (rows : List Row) (places : List Place) (f : ℕ) (long : length places ≡ length rows) (ranks : (j : ℕ) → j < length rows → get_or places j Absent ≡ cond (ltb j f) Above Below) where
  ranked_above : rows_above rows places f ≡ take f rows
  unfolding standing
  ranked_above =
      sym (standing_above rows places f long) ∙ before (λ i. same (stance places f i) Above) rows f (λ i l. let rank = ranks i l in grind (arith, nat_tests))

  ranked_below : rows_below rows places f ≡ drop (suc f) rows
  unfolding standing
  ranked_below =
      sym (standing_below rows places f long) ∙ after (λ i. same (stance places f i) Below) rows f (λ i l. let rank = ranks i l in grind (arith, nat_tests))

  pub ranked_response : (response : ℕ → Row → List Row → List Row → Option ℕ) (k : ℕ) → length rows ≤ 96 → f < length rows → carried k (get_or rows f no_row) ≡ true → response_in response k (row_at rows f) (rows_above rows places f) (rows_below rows places f) ≡ response_at response k rows f
  unfolding response_at
  ranked_response response k few in_list c =
      ap₂ (λ us ls. response_in response k (row_at rows f) us ls) ranked_above ranked_below
      ∙ sym (cond-true _ _ _ (and_from _ _ (le-leb _ _ few) (lt-ltb _ _ in_list)) ∙ cond-true _ _ _ c)

module _ (response : ℕ → Row → List Row → List Row → Option ℕ) (k : ℕ) (rows : List Row) (f : ℕ) where
  pub long : 96 < length rows → None ≡ response_at response k rows f
  unfolding response_at
  long h = sym (cond-false _ _ _ (and_left _ _ (lt-leb _ _ h)))

  pub outside : length rows ≤ f → None ≡ response_at response k rows f
  unfolding response_at
  outside h = sym (cond-false _ _ _ (and_right _ _ (le-ltb _ _ h)))

  pub not_carried : carried k (get_or rows f no_row) ≡ false → None ≡ response_at response k rows f
  unfolding response_at
  not_carried e = by (leb (length rows) 96 && ltb f (length rows))
    where
      by : (b : Bool) → None ≡ cond b (cond (carried k (get_or rows f no_row)) (reply (response k) (get_or rows f no_row) (filter (carried k) (take f rows)) (filter (carried k) (drop (suc f) rows))) None) None
      by true = sym (cond-false _ _ _ e)
      by false = refl

-- the response of a frame between those before it and those after it
pub response_between : (response : ℕ → Row → List Row → List Row → Option ℕ) (k : ℕ) (us : List Row) (f : Row) (ls : List Row) → length (us ++ (f ∷ ls)) ≤ 96 → carried k f ≡ true → response_at response k (us ++ (f ∷ ls)) (length us) ≡ response_in response k f us ls
unfolding response_at
response_between response k us f ls few c =
    let rows = us ++ (f ∷ ls) in
    let is : get_or rows (length us) no_row ≡ f = get_or_at us f ls no_row (length us) refl in
    let long : length rows ≡ length us + suc (length ls) = length-append us (f ∷ ls) in
    let after : drop (suc (length us)) rows ≡ ls = grind (arith, common_steps) in
    cond-true _ _ _ (and_from _ _ (le-leb _ _ few) (lt-ltb _ _ (omega arith)))
    ∙ cond-true _ _ _ (ap (carried k) is ∙ c)
    ∙ ap (λ r. response_in response k r (take (length us) rows) (drop (suc (length us)) rows)) is
    ∙ ap₂ (λ a b. response_in response k f a b) (take_at us (f ∷ ls) (length us) refl) after
