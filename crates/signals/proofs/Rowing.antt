-- The row that some signals give: within the limits, and in words. Assumes nothing.
use Rattle.std.proofs.Common.{◌≡◌, ℕ, suc, ◌+◌, ◌/◌, ◌%◌, ◌^◌, ◌<◌, ◌≤◌, true, ◌⊎◌, List, [], ◌∷◌, ◌++◌, length, get_or, take, drop, Decides, fold, sym, refl, ap, ◌∙◌, subst, inl, inr, ⊎_elim, arith}
use native.Mathlib.Nat.{zero-div}
use lib.Bits.{bit_or, or_step, or_lt, or_comm}
use Rattle.std.specs.List.{AllByRecursion}
use Rattle.std.proofs.lemmas.Nat.{or_shr, le_or_l, le_or_r}
use Rattle.std.proofs.ByRecursion.{All-weaker}
use Rattle.std.proofs.lemmas.List.Sums.{fold_push, sum_by_push, sum_by-cons, sum_by-append}
use Rattle.std.proofs.lemmas.Bool.{eqb-true, eq-eqb}
use Rattle.std.proofs.lemmas.Bool.Decides.{nat_tests}
use Rattle.frames.specs.declared.row.Row.{Row}
use Rattle.timing.specs.Carried.{in_set}
use Rattle.frames.specs.Limits.{Lawful}
use Rattle.shelf.specs.Picks.{Pick}
use Rattle.shelf.specs.Picks.Pick.{here, there}
use Rattle.shelf.proofs.Folds.{least_push, least_le, le_least, least_below, least_is}
use Rattle.signals.specs.declared.signal.Signal.{Signal}
use Rattle.signals.specs.declared.signal.Entry.{Entry}
use Rattle.signals.specs.Gathered.{Gathered, Named}
use Rattle.signals.specs.Limits.{LawfulSignal, lawful_signal}
use Rattle.signals.specs.Names.{no_entry}
use Rattle.signals.specs.Riders.{riders}
use Rattle.signals.specs.Rows.{row_by, joined, longest}
use Rattle.signals.proofs.Riding.{riders_more, riders_same, riders_split, rider}

pub decides_signal : (s : Signal) → Decides (lawful_signal s) (LawfulSignal s)
decides_signal s = (
  (λ e. record { from = grind (arith, nat_tests); sized = grind (arith, nat_tests); paced = grind (arith, nat_tests); timely = grind (arith, nat_tests); named = grind (arith, nat_tests) }),
  (λ h. grind (arith, nat_tests)),
)

pub row_nil : row_by [] ≡ record { sender = 0; fill = 0; period = longest; deadline = longest; set = 0 }
unfolding row_by
row_nil = refl

-- one signal more
pub row_push : (ss : List Signal) (s : Signal) → row_by (ss ++ (s ∷ [])) ≡ joined (row_by ss) s
unfolding row_by
row_push ss s =
    let a = fold_push (λ _ t. t.sender) 0 ss s in
    let b = sum_by_push (λ t. t.size) ss s in
    let c = least_push (λ t. t.period) longest ss s in
    let d = least_push (λ t. t.deadline) longest ss s in
    let e = fold_push (λ m t. bit_or m t.set) 0 ss s in
    cc

-- the sum of the sizes
pub fill_append : (ss ts : List Signal) → (row_by (ss ++ ts)).fill ≡ (row_by ss).fill + (row_by ts).fill
unfolding row_by
fill_append ss ts = sum_by-append (λ s. s.size) ss ts

pub fill_cons : (s : Signal) (ss : List Signal) → (row_by (s ∷ ss)).fill ≡ s.size + (row_by ss).fill
unfolding row_by
fill_cons s ss = sum_by-cons (λ t. t.size) s ss

-- the sender of some signals that have one
senders : (q a : ℕ) (ss : List Signal) → a ≡ q → AllByRecursion (λ s. s.sender ≡ q) ss → fold (λ _ s. s.sender) a ss ≡ q
senders q a [] e h = e
senders q a (s ∷ ss) e h = senders q s.sender ss h.0 h.1

pub row_sender : (q : ℕ) (s : Signal) (ss : List Signal) → AllByRecursion (λ t. t.sender ≡ q) (s ∷ ss) → (row_by (s ∷ ss)).sender ≡ q
unfolding row_by
row_sender q s ss h = senders q s.sender ss h.0 h.1

-- unions
union_ge : (d : ℕ) (ss : List Signal) → d ≤ fold (λ m s. bit_or m s.set) d ss
union_ge d [] = omega arith
union_ge d (s ∷ ss) = omega (arith, le_or_l d s.set, union_ge (bit_or d s.set) ss)

union_le : (d : ℕ) (ss : List Signal) → d ≤ 15 → AllByRecursion (λ s. s.set ≤ 15) ss → fold (λ m s. bit_or m s.set) d ss ≤ 15
union_le d [] h a = h
union_le d (s ∷ ss) h a =
    union_le (bit_or d s.set) ss (omega (arith, or_lt 4 d s.set (omega arith) (omega (arith, a.0)))) a.1

-- a domain is in a union where it is in a part
half_or : (a b : ℕ) → a % 2 ≡ 1 → bit_or a b % 2 ≡ 1
half_or a b h = omega (arith, or_step a b)

or_half : (a b : ℕ) → bit_or a b % 2 ≡ 1 → (a % 2 ≡ 1) ⊎ (b % 2 ≡ 1)
or_half a b h = grind (arith, or_step a b)

pub in_left : (k a b : ℕ) → in_set k a ≡ true → in_set k (bit_or a b) ≡ true
in_left k a b h = eq-eqb _ _ (ap (λ n. n % 2) (or_shr a b k) ∙ half_or (a / 2 ^ k) (b / 2 ^ k) (eqb-true _ _ h))

in_right : (k a b : ℕ) → in_set k b ≡ true → in_set k (bit_or a b) ≡ true
in_right k a b h = ap (in_set k) (or_comm a b) ∙ in_left k b a h

in_either : (k a b : ℕ) → in_set k (bit_or a b) ≡ true → (in_set k a ≡ true) ⊎ (in_set k b ≡ true)
in_either k a b h =
    ⊎_elim {C = (in_set k a ≡ true) ⊎ (in_set k b ≡ true)} (λ e. inl (eq-eqb _ _ e)) (λ e. inr (eq-eqb _ _ e)) (or_half (a / 2 ^ k) (b / 2 ^ k) (sym (ap (λ n. n % 2) (or_shr a b k)) ∙ eqb-true _ _ h))

no_domain : (k : ℕ) → in_set k 0 ≡ true → ⊥
no_domain k t = omega (arith, eqb-true (0 / 2 ^ k % 2) 1 t, ap (λ n. n % 2) (zero-div (2 ^ k)))

union_keeps : (k d : ℕ) (ss : List Signal) → in_set k d ≡ true → in_set k (fold (λ m s. bit_or m s.set) d ss) ≡ true
union_keeps k d [] t = t
union_keeps k d (s ∷ ss) t = union_keeps k (bit_or d s.set) ss (in_left k d s.set t)

union_has : (k : ℕ) {s : Signal} {ss rest : List Signal} → Pick s ss rest → in_set k s.set ≡ true → (d : ℕ) → in_set k (fold (λ m t. bit_or m t.set) d ss) ≡ true
union_has k (here {y = y} {r = r} e) t d =
    union_keeps k (bit_or d y.set) r (in_right k d y.set (subst (λ (z : Signal). in_set k z.set ≡ true) e t))
union_has k (there {y = y} p) t d = union_has k p t (bit_or d y.set)

union_from : (k d : ℕ) (ss : List Signal) → in_set k (fold (λ m s. bit_or m s.set) d ss) ≡ true → (in_set k d ≡ true) ⊎ Named k ss
union_from k d [] t = inl t
union_from k d (s ∷ ss) t =
    ⊎_elim {C = (in_set k d ≡ true) ⊎ Named k (s ∷ ss)}
    (λ e. ⊎_elim {C = (in_set k d ≡ true) ⊎ Named k (s ∷ ss)} inl (λ u. inr (s, (ss, here refl), u)) (in_either k d s.set e))
    (λ n. inr (n.0, (s ∷ n.1.0, there n.1.1), n.2))
    (union_from k (bit_or d s.set) ss t)

-- a row within the limits
module _ (s : Signal) (ss : List Signal) (h : AllByRecursion LawfulSignal (s ∷ ss)) where
  each : (P : Signal → Type 0) → ((t : Signal) → LawfulSignal t → P t) → AllByRecursion P (s ∷ ss)
  each P f = All-weaker LawfulSignal P f (s ∷ ss) h

  pub row_lawful : (row_by (s ∷ ss)).fill ≤ 64 → Lawful (row_by (s ∷ ss))
  unfolding row_by
  row_lawful most = record {
    filled = (omega (arith, fill_cons s ss, h.0.sized.0), most);
    paced = (le_least (λ t. t.period) 1000000 longest (s ∷ ss) (omega arith) (each (λ t. 1000000 ≤ t.period) (λ t l. l.paced.0)), least_le (λ t. t.period) longest (s ∷ ss));
    timely = (le_least (λ t. t.deadline) 1 longest (s ∷ ss) (omega arith) (each (λ t. 1 ≤ t.deadline) (λ t l. l.timely.0)), least_below (λ t. t.deadline) (λ t. t.period) longest (s ∷ ss) (each (λ t. t.deadline ≤ t.period) (λ t l. l.timely.1)));
    carried = (omega (arith, h.0.named.0, le_or_r 0 s.set, union_ge (bit_or 0 s.set) ss), union_le 0 (s ∷ ss) (omega arith) (each (λ t. t.set ≤ 15) (λ t l. l.named.1)));
  }

  pub row_gathered : (q : ℕ) → AllByRecursion (λ t. t.sender ≡ q) (s ∷ ss) → Gathered (s ∷ ss) (row_by (s ∷ ss))
  unfolding row_by
  row_gathered q one = record {
    sender = All-weaker (λ t. t.sender ≡ q) (λ t. t.sender ≡ (row_by (s ∷ ss)).sender) (λ t e. e ∙ sym (row_sender q s ss one)) (s ∷ ss) one;
    fill = refl;
    period = least_is (λ t. t.period) longest s ss (each (λ t. t.period ≤ longest) (λ t l. l.paced.1));
    deadline = least_is (λ t. t.deadline) longest s ss (each (λ t. t.deadline ≤ longest) (λ t l. omega (arith, l.paced.1, l.timely.1)));
    carried = λ k t. ⊎_elim {C = Named k (s ∷ ss)} (λ z. absurd (no_domain k z)) (λ n. n) (union_from k 0 (s ∷ ss) t);
    reaches = λ k n. union_has k n.1.1 n.2 0;
  }

-- a loop's step
module _ (n : ℕ) (es : List Entry) (i : ℕ) (within : i < length es) (r : Row) (so_far : r ≡ row_by (riders n (take i es))) where
  pub row_more : (get_or es i no_entry).frame ≡ n → joined r (get_or es i no_entry).signal ≡ row_by (riders n (take (i + 1) es))
  row_more q =
      ap (λ x. joined x (get_or es i no_entry).signal) so_far ∙ sym (row_push (riders n (take i es)) (get_or es i no_entry).signal) ∙ ap row_by (sym (riders_more n es i within q))

  pub row_same : ((get_or es i no_entry).frame ≡ n → ⊥) → r ≡ row_by (riders n (take (i + 1) es))
  row_same q = so_far ∙ ap row_by (sym (riders_same n es i within q))

  -- what is in the frame so far leaves room for the next
  pub room_left : (get_or es i no_entry).frame ≡ n → (row_by (riders n es)).fill ≤ 64 → r.fill + (get_or es i no_entry).signal.size ≤ 64
  room_left q most =
      let rest = drop (suc i) es in
      let all = ap (λ ss. (row_by ss).fill) (riders_split n es i within ∙ ap (λ ss. riders n (take i es) ++ ss) (rider n (get_or es i no_entry) rest q)) in
      omega (arith, all, fill_append (riders n (take i es)) ((get_or es i no_entry).signal ∷ riders n rest), fill_cons (get_or es i no_entry).signal (riders n rest), ap (λ x. x.fill) so_far)
