-- What order leaves standing is right. Assumes nothing.
use Rattle.std.proofs.Common.{◌≡◌, ℕ, ◌+◌, ◌<◌, ◌≤◌, true, List, [], ◌∷◌, ◌++◌, map, length, Some, None, Option, sym, refl, ap, ◌∙◌, subst, ap₂, arith}
use Rattle.std.proofs.lemmas.Bool.Decides.{nat_tests}
use Rattle.std.specs.List.{AllByRecursion}
use Rattle.std.proofs.ByRecursion.{All-weaker}
use Rattle.std.proofs.lemmas.List.{length-map, map-append}
use Rattle.std.proofs.lemmas.Bool.{cond-true, lt-ltb}
use Rattle.frames.specs.declared.row.Row.{Row}
use Rattle.timing.specs.Carried.{carried}
use Rattle.domains.specs.Asked.{no_row}
use Rattle.shelf.specs.Apart.{Apart}
use Rattle.shelf.specs.Numbers.{numbers}
use Rattle.shelf.specs.Picks.{Perm}
use Rattle.shelf.proofs.Numbering.{chosen_apart, length_numbers, numbers_below}
use Rattle.shelf.proofs.Perms.{pick_middle, perm_length, all_pick, all_perm, apart_perm}
use Rattle.packing.specs.Packings.{Packing, row, rows}
use Rattle.timing.specs.Everywhere.{response_in}
use Rattle.timing.specs.Laws.{Laws}
use Rattle.timing.specs.Places.{by_number, row_at}
use Rattle.timing.specs.Ranked.{response_at}
use Rattle.timing.proofs.Ranking.{response_between}
use Rattle.ordering.specs.Orders.{examinations_of}
use Rattle.ordering.proofs.Claims.{Judged, order_right, conflict_is, judged_some}
use Rattle.ordering.proofs.Greedy.{examinations_most}
use Rattle.plan.specs.Banks.{Bank, in_time}
use Rattle.plan.specs.Closes.{picked_order, standing_after, order_answers, ordered, identifier_at, identifier_says, heard, response_of}
use Rattle.plan.specs.Questions.{first_no, response_questions}
use Rattle.plan.specs.Said.{unless_refused}
use Rattle.plan.specs.Said.Said.{gives}
use Rattle.plan.specs.Stands.{place_in}
use Rattle.plan.specs.Stands.Stands.{order}
use Rattle.plan.specs.Subject.{InTime, MeetsAll, HasOrder, rows_at, Heard, Upheld}
use Rattle.packing.proofs.Rowed.{rows_long, row_at as gathered_row}
use Rattle.plan.proofs.Wording.{to_meets, to_order, from_order, greedy_picked, shrink_filtered}

place_split : (n : ℕ) (us ls : List ℕ) → Apart (us ++ (n ∷ ls)) → place_in n (us ++ (n ∷ ls)) ≡ length us
place_split n [] ls a = grind (arith, nat_tests)
place_split n (u ∷ us) ls a =
    let ne : u ≡ n → ⊥ = λ e. all_pick (λ z. z ≡ u → ⊥) a.0 (pick_middle n us ls) (sym e) in
    grind (arith, nat_tests, place_split n us ls a.1)

all_split : {X : Type 0} (P : X → Type 0) (us : List X) (n : X) (ls : List X) → AllByRecursion P (us ++ (n ∷ ls)) → AllByRecursion P us × P n × AllByRecursion P ls
all_split P [] n ls h = (tt, h.0, h.1)
all_split P (u ∷ us) n ls h = let k = all_split P us n ls h.1 in ((h.0, k.0), k.1, k.2)

module _ (p : Packing) where
  -- a frame that there is
  pub row_there : (n : ℕ) → n < p.frames → row_at (rows p) n ≡ row p n
  row_there n h = gathered_row p.signals p.frames n no_row h

  rows_same : (ns : List ℕ) → AllByRecursion (λ n. n < p.frames) ns → map (row p) ns ≡ rows_at p ns
  rows_same [] h = refl
  rows_same (n ∷ ns) h = ap₂ (λ r rs. r ∷ rs) (sym (row_there n h.0)) (rows_same ns h.1)

  -- an order of the frames, split at one of them
  module _ (few : p.frames ≤ 96) (o : List ℕ) (once : Perm (numbers 0 (rows p)) o) (us : List ℕ) (n : ℕ) (ls : List ℕ) (split : o ≡ us ++ (n ∷ ls)) where
    each_below : AllByRecursion (λ i. i < p.frames) us × (n < p.frames) × AllByRecursion (λ i. i < p.frames) ls
    each_below =
        let a = All-weaker (λ i. i < 0 + length (rows p)) (λ i. i < p.frames) (λ i l. omega (arith, rows_long p.signals p.frames)) (numbers 0 (rows p)) (numbers_below 0 (rows p)) in
        all_split (λ i. i < p.frames) us n ls (subst (AllByRecursion (λ i. i < p.frames)) split (all_perm (λ i. i < p.frames) a once))

    at_place : place_in n o ≡ length us
    at_place =
        ap (place_in n) split ∙ place_split n us ls (subst Apart split (apart_perm (chosen_apart (λ _. true) 0 (rows p)) once))

    pub identified_is : identifier_says p (order o) n ≡ gives (identifier_at (length us) ∷ [])
    identified_is =
        ap (unless_refused (identifier_at (place_in n o) ∷ [])) (cond-true _ _ _ (lt-ltb _ _ each_below.1)) ∙ ap (λ q. gives (identifier_at q ∷ [])) at_place

    pub split_rows : rows_at p o ≡ rows_at p us ++ (row_at (rows p) n ∷ rows_at p ls)
    split_rows = ap (rows_at p) split ∙ map-append (row_at (rows p)) us (n ∷ ls)

    lined : map (row p) o ≡ rows_at p us ++ (row p n ∷ rows_at p ls)
    lined =
        ap (map (row p)) split ∙ map-append (row p) us (n ∷ ls) ∙ ap₂ (λ a b. a ++ (row p n ∷ b)) (rows_same us each_below.0) (rows_same ls each_below.2)

    long : length (rows_at p us ++ (row p n ∷ rows_at p ls)) ≤ 96
    long = omega (arith, ap length lined, length-map o (row p), perm_length once, length_numbers 0 (rows p), rows_long p.signals p.frames)

    module _ (m : Bank) (k : ℕ) (c : carried k (row p n) ≡ true) where
      response_here : response_of m p o n k ≡ response_in m.response k (row p n) (rows_at p us) (rows_at p ls)
      response_here =
          ap₂ (λ rs q. response_at m.response k rs q) lined (at_place ∙ sym (length-map us (row_at (rows p)))) ∙ response_between m.response k (rows_at p us) (row p n) (rows_at p ls) long c

      pub heard_in_time : MeetsAll m (rows_at p o) → k < 4 → Heard m p o us n ls k
      heard_in_time meets l =
          let w = subst (λ (f : Row). carried k f ≡ true → InTime (response_in m.response k f (rows_at p us) (rows_at p ls)) f.deadline) (row_there n each_below.1) (meets (rows_at p us) (row_at (rows p) n) (rows_at p ls) split_rows k l) c in
          let asked : first_no (response_questions p (order o) n k) ≡ None = cond-true _ _ _ (lt-ltb _ _ each_below.1) ∙ cond-true _ _ _ c in
          record { time = w.time; is = w.is; said = ap₂ heard asked (response_here ∙ w.is); kept = w.kept }

module _ (m : Bank) (laws : Laws (in_time m)) (p : Packing) where
  judged : (o : Option (List ℕ)) → picked_order m p ≡ o → Judged (in_time m) (rows p) no_row o
  judged o e = subst (Judged (in_time m) (rows p) no_row) e (order_right laws (rows p) no_row)

  pub has_order : (o : List ℕ) → picked_order m p ≡ Some o → HasOrder m (rows p)
  has_order o e = to_order m (rows p) (judged_some laws (rows p) no_row o (judged (Some o) e))

  pub no_order : picked_order m p ≡ None → HasOrder m (rows p) → ⊥
  no_order e h = judged None e (from_order m (rows p) h)

  upheld_by : p.frames ≤ 96 → (o : Option (List ℕ)) → picked_order m p ≡ o → Upheld m p (standing_after m p o)
  upheld_by few None e =
      let c = conflict_is laws (rows p) no_row (judged None e) in
      record {
        filtered = shrink_filtered m laws p (numbers 0 (rows p)) (numbers 0 (rows p)) (chosen_apart (λ _. true) 0 (rows p));
        within = c.within;
        none = λ h. c.none (from_order m _ h);
        each = λ x rest k. to_order m _ (c.each x rest k);
        counted = ap (order_answers m p) e;
      }
  upheld_by few (Some o) e =
      let j = judged (Some o) e in
      let meets = to_meets m (rows_at p o) j.1 in
      let apart = chosen_apart (λ _. true) 0 (rows p) in
      let all = length_numbers 0 (rows p) in
      record {
        examinations = examinations_of (in_time m) (rows p) no_row;
        picked = greedy_picked m p (length (rows p)) (numbers 0 (rows p)) [] o apart all e;
        counted = ap (order_answers m p) e;
        few = examinations_most (by_number (in_time m) (row_at (rows p))) (length (rows p)) (numbers 0 (rows p)) apart all;
        once = j.0;
        meets = meets;
        identified = λ us n ls q. identified_is p few o j.0 us n ls q;
        hears = λ us n ls q k l c. heard_in_time p few o j.0 us n ls q m k c meets l;
      }

  pub ordered_upheld : p.frames ≤ 96 → Upheld m p (ordered m p)
  ordered_upheld few = upheld_by few (picked_order m p) refl
