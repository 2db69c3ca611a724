-- What a listing tells. Assumes nothing.
use Rattle.std.proofs.Common.{◌≡◌, ℕ, ◌*◌, ◌<◌, ◌≤◌, Bool, true, List, [], ◌∷◌, ◌++◌, map, length, filter, sym, refl, ap, subst, arith, lit<}
use Rattle.std.specs.List.{AllByRecursion, AllZip, flat_map, range_with_len}
use Rattle.std.proofs.lemmas.Bool.{cond_both, cond-true, lt-ltb}
use Rattle.std.proofs.lemmas.List.{length-append, length-map}
use Rattle.std.proofs.lemmas.List.FromFn.{length-range_with_len}
use Rattle.fields.specs.Fields.{AllFit}
use Rattle.fields.specs.Hex.{hex}
use Rattle.fields.proofs.Hexing.{hex_length}
use Rattle.frames.specs.declared.row.Row.{Row}
use Rattle.frames.proofs.Fitting.{payload_le}
use Rattle.shelf.proofs.Perms.{all_pick, pick_middle}
use Rattle.signals.specs.Limits.{LawfulSignal}
use Rattle.packing.specs.Packings.{Packing, row}
use Rattle.packing.proofs.Sounds.{Sound, lawful_riders}
use Rattle.packing.proofs.Words.{well_packed}
use Rattle.timing.specs.Carried.{in_set}
use Rattle.timing.specs.Everywhere.{four}
use Rattle.plan.specs.Banks.{Bank}
use Rattle.plan.specs.Closes.{figures, identifier_says, response_says}
use Rattle.plan.specs.Said.{unless_refused}
use Rattle.plan.specs.Stands.{Stands, among}
use Rattle.plan.specs.Stands.Stands.{nothing, order, conflict}
use Rattle.plan.specs.Subject.{Heard, OrderStands, ConflictStands, Upheld}
use Rattle.listing.specs.Lines.{feed, row_widths, row_values, row_text, times_widths, times_text, times_in, value_said, domains_of, order_line, conflict_line, listing}
use Rattle.listing.specs.Tells.{OrderLine, OrderTold, ConflictTold, Told}
use Rattle.listing.proofs.Clashing.{in_list_order}
use Rattle.listing.proofs.Placing.{order_long, all_below}

-- how long lines are
row_length : (r : Row) → length (row_text r) ≡ 25
row_length r = simp (length-append, hex_length)

times_length : (ts : List ℕ) → length (times_text ts) ≡ 9 * length ts
times_length [] = refl
times_length (t ∷ ts) = omega (arith, length-append (hex 8 t) (times_text ts), hex_length 8 t, times_length ts)

few_pass : (q : ℕ → Bool) (xs : List ℕ) → length (filter q xs) ≤ length xs
few_pass q [] = omega arith
few_pass q (x ∷ xs) = grind (arith, few_pass q xs)

pub order_line_short : (m : Bank) (p : Packing) (st : Stands) (n : ℕ) → length (order_line m p st n) ≤ 65
unfolding order_line
order_line_short m p st n =
    let i = hex 3 (value_said (identifier_says p st n)) in
    let r = row_text (row p n) in
    let ts = times_in m p st n (row p n).set in
    let f = few_pass (λ k. in_set k (row p n).set) four in
    let long : length ts ≤ 4 = omega (arith, f, length-map (domains_of (row p n).set) (λ k. value_said (response_says m p st n k))) in
    omega (arith, length-append (i ++ r ++ times_text ts) feed, length-append (i ++ r) (times_text ts), length-append i r, hex_length 3 (value_said (identifier_says p st n)), row_length (row p n), times_length ts)

pub conflict_line_short : (p : Packing) (n : ℕ) → length (conflict_line p n) ≤ 65
unfolding conflict_line
conflict_line_short p n =
    let r = row_text (row p n) in
    omega (arith, length-append ((70 ∷ 70 ∷ 70 ∷ []) ++ r) feed, length-append (70 ∷ 70 ∷ 70 ∷ []) r, row_length (row p n))

all_short : (f : ℕ → List ℕ) → ((n : ℕ) → length (f n) ≤ 65) → (xs : List ℕ) → length (flat_map f xs) ≤ 65 * length xs
all_short f h [] = omega arith
all_short f h (x ∷ xs) = omega (arith, length-append (f x) (flat_map f xs), h x, all_short f h xs)

-- the domains of a set
each_carried : (set : ℕ) (ks : List ℕ) → AllByRecursion (λ k. k < 4) ks → AllByRecursion (λ k. (k < 4) × (in_set k set ≡ true)) (filter (λ k. in_set k set) ks)
each_carried set [] h = tt
each_carried set (k ∷ ks) h =
    cond_both (in_set k set) _ _ (AllByRecursion (λ k. (k < 4) × (in_set k set ≡ true))) (λ e. ((h.0, e), each_carried set ks h.1)) (λ _. each_carried set ks h.1)

-- a row of a plan has room in its fields
pub row_fits : (p : Packing) → Sound p → (n : ℕ) → n < p.frames → AllFit row_widths (row_values (row p n))
row_fits p s n l =
    let w = well_packed p s in
    let c = w.checked n l in
    let g = w.gathered n l in
    let of : g.period.one.sender ≡ (row p n).sender = all_pick (λ s. s.sender ≡ (row p n).sender) g.sender g.period.among.1 in
    let from = (all_pick LawfulSignal (lawful_riders p p.signals s.signals n) g.period.among.1).from in
    (omega (arith, of, from), (omega (arith, payload_le (row p n).fill), (omega (arith, c.paced.1), (omega (arith, c.paced.1, c.timely.1), (omega (arith, c.carried.1), tt)))))

module _ (m : Bank) (p : Packing) (s : Sound p) (o : List ℕ) (r : OrderStands m p o) where
  module _ (us : List ℕ) (n : ℕ) (ls : List ℕ) (e : o ≡ us ++ (n ∷ ls)) where
    there : n < p.frames
    there = all_pick (λ i. i < p.frames) (subst (AllByRecursion (λ i. i < p.frames)) e (all_below m p o r)) (pick_middle n us ls)

    -- each time that is read is one that is heard, and fits
    heard : (ks : List ℕ) → AllByRecursion (λ k. (k < 4) × (in_set k (row p n).set ≡ true)) ks → AllZip (λ k t. (h : Heard m p o us n ls k) × (h.time ≡ t)) ks (map (λ k. value_said (response_says m p (order o) n k)) ks)
    heard [] h = tt
    heard (k ∷ ks) h = let t = r.hears us n ls e k h.0.0 h.0.1 in ((t, sym (ap value_said t.said)), heard ks h.1)

    times_fit : (ks ts : List ℕ) → AllZip (λ k t. (h : Heard m p o us n ls k) × (h.time ≡ t)) ks ts → AllFit (times_widths ts) ts
    times_fit [] [] h = tt
    times_fit [] (t ∷ ts) h = absurd h
    times_fit (k ∷ ks) [] h = absurd h
    times_fit (k ∷ ks) (t ∷ ts) h =
        let f = row_fits p s n there in
        (omega (arith, h.0.0.kept, h.0.1, f.1.1.1.0), times_fit ks ts h.1)

    line_tells : OrderLine m p o us n ls (order_line m p (order o) n)
    unfolding order_line
    line_tells =
        let ks = domains_of (row p n).set in
        let ts = times_in m p (order o) n (row p n).set in
        let h = heard ks (each_carried (row p n).set four ((lit< tt, (lit< tt, (lit< tt, (lit< tt, tt)))))) in
        let long = order_long m p o r in
        let few = s.room in
        let place : length us < 96 = omega (arith, long, few, ap length e, length-append us (n ∷ ls)) in
        record {
          identified = r.identified us n ls e;
          recorded = ap (unless_refused (figures (row p n))) (cond-true _ _ _ (lt-ltb n p.frames there));
          times = ts;
          heard = h;
          is = ap (λ i. hex 3 i ++ row_text (row p n) ++ times_text ts ++ feed) (ap value_said (r.identified us n ls e));
          identifier_fits = omega (arith, place);
          row_fits = row_fits p s n there;
          times_fit = times_fit ks ts h;
          short = order_line_short m p (order o) n;
        }

  order_told : OrderTold m p o (listing m p (order o))
  order_told = record {
    once = r.once;
    is = refl;
    lines = line_tells;
    short = omega (arith, all_short (order_line m p (order o)) (order_line_short m p (order o)) o, order_long m p o r, s.room);
  }

conflict_told : (m : Bank) (p : Packing) → Sound p → (cs : List ℕ) → ConflictStands m p cs → ConflictTold p cs (listing m p (conflict cs))
conflict_told m p s cs h =
    let e = in_list_order m p cs h in
    let few = few_pass (λ n. among n cs) (range_with_len 0 p.frames) in
    record {
      in_list_order = sym e;
      is = refl;
      rows_fit = row_fits p s;
      lines_short = conflict_line_short p;
      short = omega (arith, all_short (conflict_line p) (conflict_line_short p) cs, ap length e, few, length-range_with_len 0 p.frames, s.room);
    }

-- what is listed of a plan tells it
pub all_told : (m : Bank) (p : Packing) → Sound p → (st : Stands) → Upheld m p st → Told m p st (listing m p st)
all_told m p s nothing u = refl
all_told m p s (order o) u = order_told m p s o u
all_told m p s (conflict cs) u = conflict_told m p s cs u
