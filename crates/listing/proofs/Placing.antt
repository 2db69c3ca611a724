-- The frames of an order at their places. Assumes nothing.
use Rattle.std.proofs.Common.{◌≡◌, ℕ, ◌+◌, ◌*◌, ◌<◌, ◌≤◌, ◌⊎◌, List, [], ◌∷◌, ◌++◌, length, get_or, take, drop, set, sym, refl, ap, ◌∙◌, inl, inr, arith, get_or-set_same, get_or-set_other}
use Rattle.std.specs.List.{AllByRecursion}
use Rattle.std.proofs.ByRecursion.{All-weaker, All-get_or}
use Rattle.std.proofs.lemmas.Bool.{cases_eq}
use Rattle.std.proofs.lemmas.List.{take-append-drop, drop_more, length-take-le, length-append, get_or_at, get_or-take, same_lists, get_or_default}
use Rattle.shelf.specs.Numbers.{numbers}
use Rattle.shelf.proofs.Numbering.{length_numbers, numbers_below, number_in}
use Rattle.shelf.proofs.Perms.{perm_length, all_perm, pick_split, taken}
use Rattle.packing.specs.Packings.{Packing, rows}
use Rattle.plan.specs.Banks.{Bank}
use Rattle.plan.specs.Closes.{identifier_at, identifier_says}
use Rattle.plan.specs.Said.Said.{gives}
use Rattle.plan.specs.Stands.{Stands, in_order}
use Rattle.plan.specs.Stands.Stands.{nothing, order, conflict}
use Rattle.plan.specs.Subject.{OrderStands}
use Rattle.packing.proofs.Rowed.{rows_long}
use Rattle.listing.specs.Lines.{value_said}
use Rattle.listing.specs.Tells.{OrderRight}

-- an order in which place at holds n, once place at is set to n
pub put_more : (o ps : List ℕ) (n at : ℕ) → at < length ps → get_or o at 0 ≡ n → ((q : ℕ) → q < length o → get_or o q 0 ≡ n → q ≡ at) → ((q : ℕ) → q < length o → get_or o q 0 < n → get_or ps q 0 ≡ get_or o q 0) → (q : ℕ) → q < length o → get_or o q 0 < n + 1 → get_or (set ps at n) q 0 ≡ get_or o q 0
put_more o ps n at l is only before q k b = go (cases_eq q at)
  where
    go : (q ≡ at) ⊎ (q ≡ at → ⊥) → get_or (set ps at n) q 0 ≡ get_or o q 0
    go (inl e) = ap (λ j. get_or (set ps at n) j 0) e ∙ get_or-set_same ps at n 0 l ∙ sym is ∙ ap (λ j. get_or o j 0) (sym e)
    go (inr ne) = get_or-set_other ps at q n 0 ne ∙ before q k (go_below (cases_eq (get_or o q 0) n))
      where
        go_below : (get_or o q 0 ≡ n) ⊎ (get_or o q 0 ≡ n → ⊥) → get_or o q 0 < n
        go_below (inl e) = absurd (ne (only q k e))
        go_below (inr d) = omega arith

-- where an identifier puts frame n in an order
pub record PlaceOf (o : List ℕ) (n i : ℕ) : Type 0 where
  pub at : ℕ
  pub within : at < length o
  pub is : get_or o at 0 ≡ n
  pub identifier : i ≡ 8 * (at + 1)
  pub only : (q : ℕ) → q < length o → get_or o q 0 ≡ n → q ≡ at

module _ (m : Bank) (p : Packing) where
  stands : (st : Stands) → OrderRight m p st → OrderStands m p (in_order st)
  stands nothing h = absurd h
  stands (order o) h = h
  stands (conflict cs) h = absurd h

  pub as_order : (st : Stands) → OrderRight m p st → st ≡ order (in_order st)
  as_order nothing h = absurd h
  as_order (order o) h = refl
  as_order (conflict cs) h = absurd h

  module _ (o : List ℕ) (r : OrderStands m p o) where
    pub order_long : length o ≡ p.frames
    order_long = sym (perm_length r.once) ∙ length_numbers 0 (rows p) ∙ rows_long p.signals p.frames

    pub all_below : AllByRecursion (λ n. n < p.frames) o
    all_below =
        all_perm (λ n. n < p.frames) (All-weaker (λ i. i < 0 + length (rows p)) (λ n. n < p.frames) (λ i l. omega (arith, rows_long p.signals p.frames)) (numbers 0 (rows p)) (numbers_below 0 (rows p))) r.once

    pub each_below : (q : ℕ) → q < length o → get_or o q 0 < p.frames
    each_below q l = All-get_or (λ n. n < p.frames) o q 0 l all_below

    pub split_at : (q : ℕ) → q < length o → o ≡ take q o ++ (get_or o q 0 ∷ drop (q + 1) o)
    split_at q l = sym (take-append-drop q o) ∙ ap (λ s. take q o ++ s) (drop_more o q 0 l)

    at_place : (q : ℕ) → q < length o → identifier_says p (order o) (get_or o q 0) ≡ gives (identifier_at q ∷ [])
    at_place q l =
        r.identified (take q o) (get_or o q 0) (drop (q + 1) o) (split_at q l) ∙ ap (λ i. gives (identifier_at i ∷ [])) (length-take-le q o (omega arith))

    place : (n : ℕ) → n < p.frames → (q : ℕ) × (q < length o) × (get_or o q 0 ≡ n)
    place n l =
        let k = number_in 0 n (rows p) (omega (arith, rows_long p.signals p.frames)) in
        let t = taken r.once k.1 in
        let s = pick_split t.1 in
        let e : 0 + n ≡ n = omega arith in
        (length s.0, omega (arith, ap length s.2, length-append s.0 ((0 + n) ∷ s.1)), ap (λ xs. get_or xs (length s.0) 0) s.2 ∙ get_or_at s.0 (0 + n) s.1 0 (length s.0) refl ∙ e)

  pub place_by : (st : Stands) → OrderRight m p st → (n i : ℕ) → n < p.frames → gives (i ∷ []) ≡ identifier_says p st n → PlaceOf (in_order st) n i
  place_by st h n i l e =
      let o = in_order st in
      let r = stands st h in
      let k = place o r n l in
      let says : (q : ℕ) → q < length o → get_or o q 0 ≡ n → i ≡ 8 * (q + 1) = λ q b f. ap value_said (e ∙ ap (λ s. identifier_says p s n) (as_order st h) ∙ ap (identifier_says p (order o)) (sym f) ∙ at_place o r q b) in
      let i₀ = says k.0 k.1 k.2 in
      record { at = k.0; within = k.1; is = k.2; identifier = i₀; only = λ q b f. let j : i ≡ 8 * (q + 1) = says q b f in omega arith }

  -- the identifier of each frame is read
  pub identifier_read : (st : Stands) → OrderRight m p st → (n : ℕ) → n < p.frames → (i : ℕ) × (identifier_says p st n ≡ gives (i ∷ []))
  identifier_read st h n l =
      let o = in_order st in
      let r = stands st h in
      let k = place o r n l in
      (identifier_at k.0, ap (λ s. identifier_says p s n) (as_order st h) ∙ ap (identifier_says p (order o)) (sym k.2) ∙ at_place o r k.0 k.1)

  pub all_placed : (st : Stands) → OrderRight m p st → (ps : List ℕ) → length (in_order st) ≤ length ps → ((q : ℕ) → q < length (in_order st) → get_or (in_order st) q 0 < p.frames → get_or ps q 0 ≡ get_or (in_order st) q 0) → take p.frames ps ≡ in_order st
  all_placed st h ps long f =
      let o = in_order st in
      let r = stands st h in
      let wide : length (take p.frames ps) ≡ length o = length-take-le p.frames ps (omega (arith, order_long o r)) ∙ sym (order_long o r) in
      same_lists (take p.frames ps) o wide (λ k d l.
      let b : k < length o = omega arith in
      let t : k < p.frames = omega (arith, order_long o r) in
      let w : k < length ps = omega arith in
      get_or-take p.frames ps k d t ∙ get_or_default ps k d 0 w ∙ f k b (each_below o r k b) ∙ get_or_default o k 0 d b)

  pub frames_in : (st : Stands) → OrderRight m p st → length (in_order st) ≡ p.frames
  frames_in st h = order_long (in_order st) (stands st h)

  pub frame_in : (st : Stands) → OrderRight m p st → (q : ℕ) → q < length (in_order st) → get_or (in_order st) q 0 < p.frames
  frame_in st h = each_below (in_order st) (stands st h)
