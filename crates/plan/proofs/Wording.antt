-- Orders and conflicts by the test, and in the words of the subject. Assumes nothing.
use Rattle.std.proofs.Common.{◌≡◌, ℕ, zero, suc, ◌+◌, ◌<◌, Bool, true, false, cond, not, ◌||◌, eqb, List, [], ◌∷◌, ◌++◌, length, Some, None, Option, sym, refl, ap, ◌∙◌, subst, subst₂, arith}
use Rattle.std.proofs.lemmas.Option.{none-some, same_Some}
use Rattle.std.proofs.lemmas.List.{nil_from_length}
use Rattle.std.specs.List.{AllByRecursion}
use Rattle.std.proofs.ByRecursion.{All-weaker}
use Rattle.std.proofs.lemmas.Bool.{le-leb, leb-true, false≢true}
use Rattle.frames.specs.declared.row.Row.{Row}
use Rattle.timing.specs.Carried.{carried}
use Rattle.shelf.specs.Apart.{Apart}
use Rattle.shelf.specs.Numbers.{without}
use Rattle.shelf.proofs.Numbering.{pick_is, apart_kept}
use Rattle.shelf.proofs.Perms.{pick_length}
use Rattle.packing.specs.Packings.{Packing, rows}
use Rattle.timing.specs.Carried.{timely}
use Rattle.timing.specs.Everywhere.{response_in, in_domain, everywhere}
use Rattle.timing.specs.Laws.{Laws}
use Rattle.timing.specs.Places.{by_number, row_at}
use Rattle.ordering.specs.Orders as O
use Rattle.ordering.specs.Orders.{Meets, found, examined, at_place, greedy, examinations, orderable, shrink}
use Rattle.ordering.proofs.Audsley as A
use Rattle.ordering.proofs.Audsley.{has_order}
use Rattle.ordering.proofs.Deletion.{orderable_true, orderable_false}
use Rattle.ordering.proofs.Greedy.{found_some}
use Rattle.ordering.proofs.Records.{laws_by_number, ordered_to, ordered_back}
use Rattle.plan.specs.Banks.{Bank, in_time}
use Rattle.plan.specs.Subject.{InTime, MeetsAll, HasOrder, rows_at, TimelyFrame, Picked, Filtered}
use Rattle.plan.specs.Subject.Picked.{full, next}
use Rattle.plan.specs.Subject.Filtered.{seen, dropped, kept}

-- in time by the test, and in the words of the subject
from_timely : (o : Option ℕ) (d : ℕ) → timely o d ≡ true → InTime o d
from_timely None d e = absurd (false≢true e)
from_timely (Some t) d e = record { time = t; is = refl; kept = leb-true t d e }

to_timely : (o : Option ℕ) (d : ℕ) → InTime o d → timely o d ≡ true
to_timely o d w = ap (λ q. timely q d) w.is ∙ le-leb w.time d w.kept

or_make : (b c : Bool) → (b ≡ true → c ≡ true) → (not b || c) ≡ true
or_make b c h = grind arith

module _ (m : Bank) where
  abbrev one : ℕ → Row → List Row → List Row → Bool
  one k f us ls = in_domain m.response k f us ls

  from_one : (k : ℕ) (f : Row) (us ls : List Row) → one k f us ls ≡ true → carried k f ≡ true → InTime (response_in m.response k f us ls) f.deadline
  from_one k f us ls e c = from_timely (response_in m.response k f us ls) f.deadline (grind arith)

  to_one : (k : ℕ) (f : Row) (us ls : List Row) → (carried k f ≡ true → InTime (response_in m.response k f us ls) f.deadline) → one k f us ls ≡ true
  to_one k f us ls h = or_make (carried k f) (timely (response_in m.response k f us ls) f.deadline) (λ c. to_timely (response_in m.response k f us ls) f.deadline (h c))

  parts : (f : Row) (us ls : List Row) → in_time m f us ls ≡ true → (k : ℕ) → k < 4 → one k f us ls ≡ true
  unfolding everywhere
  parts f us ls e zero l = grind arith
  parts f us ls e (suc zero) l = grind arith
  parts f us ls e (suc (suc zero)) l = grind arith
  parts f us ls e (suc (suc (suc zero))) l = grind arith
  parts f us ls e (suc (suc (suc (suc k)))) l = absurd (omega arith)

  all_four : (f : Row) (us ls : List Row) → ((k : ℕ) → k < 4 → one k f us ls ≡ true) → in_time m f us ls ≡ true
  unfolding everywhere
  all_four f us ls x = grind (arith, x 0, x 1, x 2, x 3)

  pub to_meets : (ys : List Row) → Meets (in_time m) ys → MeetsAll m ys
  to_meets ys h us f ls e k l c = from_one k f us ls (parts f us ls (h us f ls e) k l) c

  pub from_meets : (ys : List Row) → MeetsAll m ys → Meets (in_time m) ys
  from_meets ys h us f ls e = all_four f us ls (λ k l. to_one k f us ls (h us f ls e k l))

  pub to_order : (xs : List Row) → O.HasOrder (in_time m) xs → HasOrder m xs
  to_order xs o = (o.0, o.1, to_meets o.0 o.2)

  pub from_order : (xs : List Row) → HasOrder m xs → O.HasOrder (in_time m) xs
  from_order xs o = (o.0, o.1, from_meets o.0 o.2)

  to_in_time : (p : Packing) (x : ℕ) (us ls : List ℕ) → by_number (in_time m) (row_at (rows p)) x us ls ≡ true → TimelyFrame m p x us ls
  to_in_time p x us ls e k l c = from_one k (row_at (rows p) x) (rows_at p us) (rows_at p ls) (parts (row_at (rows p) x) (rows_at p us) (rows_at p ls) e k l) c

  from_in_time : (p : Packing) (x : ℕ) (us ls : List ℕ) → TimelyFrame m p x us ls → by_number (in_time m) (row_at (rows p)) x us ls ≡ true
  from_in_time p x us ls h =
      all_four (row_at (rows p) x) (rows_at p us) (rows_at p ls) (λ k l. to_one k (row_at (rows p) x) (rows_at p us) (rows_at p ls) (h k l))

  -- the first that passes, and the examinations up to it
  found_first : (q : ℕ → Bool) (us : List ℕ) (x : ℕ) → found q us ≡ Some x → (earlier : List ℕ) × (later : List ℕ) × (us ≡ earlier ++ (x ∷ later)) × AllByRecursion (λ g. q g ≡ false) earlier × (q x ≡ true) × (examined q us ≡ length earlier + 1)
  found_first q [] x e = absurd (none-some x e)
  found_first q (u ∷ us) x e = go (q u) refl e (found_first q us x)
    where
      go : (b : Bool) → q u ≡ b → cond b (Some u) (found q us) ≡ Some x → (found q us ≡ Some x → (earlier : List ℕ) × (later : List ℕ) × (us ≡ earlier ++ (x ∷ later)) × AllByRecursion (λ g. q g ≡ false) earlier × (q x ≡ true) × (examined q us ≡ length earlier + 1))
          → (earlier : List ℕ) × (later : List ℕ) × (◌≡◌ {A = List ℕ} (u ∷ us) (earlier ++ (x ∷ later))) × AllByRecursion (λ g. q g ≡ false) earlier × (q x ≡ true) × (cond b 1 (1 + examined q us) ≡ length earlier + 1)
      go true t h ih = let z : u ≡ x = cc in ([], us, ap (λ w. w ∷ us) z, tt, subst (λ w. q w ≡ true) z t, refl)
      go false t h ih = let r = ih h in (u ∷ r.0, r.1, ap (λ l. u ∷ l) r.2, (t, r.3), r.4, omega (arith, r.5))

  pub greedy_picked : (p : Packing) (n : ℕ) (us bs o : List ℕ) → Apart us → length us ≡ n → greedy (by_number (in_time m) (row_at (rows p))) n us bs ≡ Some o → Picked m p us bs o (examinations (by_number (in_time m) (row_at (rows p))) n us bs)
  greedy_picked p zero us bs o a l e = subst₂ (λ x y. Picked m p x bs y 0) (sym (nil_from_length us l)) (same_Some _ _ e) full
  greedy_picked p (suc n) us bs o a l e = go (found q us) refl e (λ x k. greedy_picked p n (without x us) (x ∷ bs) o (apart_kept (λ k. not (eqb k x)) us a) k)
    where
      t : ℕ → List ℕ → List ℕ → Bool
      t = by_number (in_time m) (row_at (rows p))

      q : ℕ → Bool
      q = at_place t us bs

      go : (f : Option ℕ) → found q us ≡ f → elim f [ None ↦ None | Some x ↦ greedy t n (without x us) (x ∷ bs) ] ≡ Some o → ((x : ℕ) → length (without x us) ≡ n → greedy t n (without x us) (x ∷ bs) ≡ Some o → Picked m p (without x us) (x ∷ bs) o (examinations t n (without x us) (x ∷ bs)))
          → Picked m p us bs o (examined q us + elim f [ None ↦ 0 | Some x ↦ examinations t n (without x us) (x ∷ bs) ])
      go None h k ih = absurd (none-some o k)
      go (Some x) h k ih =
          let r = found_first q us x h in
          let s = found_some q us x h in
          let shorter : length (without x us) ≡ n = omega (arith, ap length (pick_is s.1 a), pick_length s.1) in
          let late = All-weaker (λ g. q g ≡ false) (λ g. TimelyFrame m p g (without g us) bs → ⊥) (λ g no yes. false≢true (sym no ∙ from_in_time p g (without g us) bs yes)) r.0 r.3 in
          subst (λ k. Picked m p us bs o (k + examinations t n (without x us) (x ∷ bs))) (sym r.5) (next x r.0 r.1 r.2 late (to_in_time p x (without x us) bs r.4) (ih x shorter k))

  -- what the filter leaves
  pub shrink_filtered : Laws (in_time m) → (p : Packing) (xs cs : List ℕ) → Apart cs → Filtered m p xs cs (shrink (orderable (by_number (in_time m) (row_at (rows p)))) xs cs)
  shrink_filtered laws p [] cs a = seen
  shrink_filtered laws p (x ∷ xs) cs a = go (ok (without x cs)) refl (shrink_filtered laws p xs cs a) (shrink_filtered laws p xs (without x cs) apart)
    where
      t : ℕ → List ℕ → List ℕ → Bool
      t = by_number (in_time m) (row_at (rows p))

      ok : List ℕ → Bool
      ok = orderable t

      by : Laws t
      by = laws_by_number (in_time m) (row_at (rows p)) laws

      apart : Apart (without x cs)
      apart = apart_kept (λ k. not (eqb k x)) cs a

      go : (b : Bool) → ok (without x cs) ≡ b → Filtered m p xs cs (shrink ok xs cs) → Filtered m p xs (without x cs) (shrink ok xs (without x cs)) → Filtered m p (x ∷ xs) cs (cond b (shrink ok xs cs) (shrink ok xs (without x cs)))
      go true e f g = kept (to_order _ (has_order laws (ordered_to (in_time m) (row_at (rows p)) (without x cs) (orderable_true by (without x cs) apart e)))) f
      go false e f g = dropped (λ h. orderable_false by (without x cs) apart e (ordered_back (in_time m) (row_at (rows p)) (without x cs) (A.from_order laws (from_order _ h)))) g
