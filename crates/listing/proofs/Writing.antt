-- What is read of a frame, and fields appended one after another. Assumes nothing.
use Rattle.std.proofs.Common.{◌≡◌, ℕ, ◌+◌, Bool, true, false, cond, List, [], ◌∷◌, ◌++◌, map, get_or, filter, Some, None, Ok, Err, Option, Result, sym, refl, ap, ◌∙◌, arith, append_assoc, append-nil}
use Rattle.std.specs.List.{range_with_len}
use Rattle.std.specs.Result.{result_unwrap_or}
use Rattle.std.proofs.lemmas.List.{map-id, map-append}
use Rattle.std.proofs.lemmas.List.FromFn.{filter_of_map_range_with_len_more}
use Rattle.fields.specs.Hex.{hex}
use Rattle.frames.specs.declared.row.Row.{Row}
use Rattle.frames.specs.declared.frame.Frame.{Frame}
use Rattle.frames.specs.Records.{row_of}
use Rattle.packing.specs.Packings.{Packing, row}
use Rattle.plan.specs.declared.fault.PlanFault.{PlanFault}
use Rattle.plan.specs.Closes.{figures, record_says}
use Rattle.plan.specs.Questions.{first_no, frame_questions}
use Rattle.plan.specs.Said.{Said, told, unless_refused}
use Rattle.plan.specs.Said.Said.{gives, refuses}
use Rattle.timing.specs.Carried.{in_set}
use Rattle.listing.specs.Lines.{value_said, times_text}

-- the value of a reading, by what it says
pub value_is : (r : Result ℕ PlanFault) (s : Said) → told (λ v. v ∷ []) r ≡ s → result_unwrap_or r 0 ≡ value_said s
value_is (Ok v) s e = ap value_said e
value_is (Err f) s e = ap value_said e

abbrev row_from : List ℕ → Row
row_from ns = record { sender = get_or ns 0 0; fill = get_or ns 1 0; period = get_or ns 2 0; deadline = get_or ns 3 0; set = get_or ns 4 0 }

abbrev values_of : Said → List ℕ
values_of (gives vs) = vs
values_of (refuses f) = []

-- the row of the record that is read
pub record_is : (p : Packing) (n : ℕ) (r : Result Frame PlanFault) (f : Frame) → told (λ f. figures (row_of f)) r ≡ record_says p n → r ≡ Ok f → row_of f ≡ row p n
record_is p n r f e o = go (first_no (frame_questions p n)) (sym (ap (told (λ f. figures (row_of f))) o) ∙ e)
  where
    go : (q : Option PlanFault) → gives (figures (row_of f)) ≡ unless_refused (figures (row p n)) q → row_of f ≡ row p n
    go None h = ap (λ s. row_from (values_of s)) h
    go (Some q) h = cc

-- times one after another
times_append : (ts us : List ℕ) → times_text (ts ++ us) ≡ times_text ts ++ times_text us
times_append [] us = refl
times_append (t ∷ ts) us = ap (λ l. 32 ∷ (hex 8 t ++ l)) (times_append ts us) ∙ ap (λ l. 32 ∷ l) (sym (append_assoc (hex 8 t) (times_text ts) (times_text us)))

-- what passes of the numbers below k + 1
pub passed_more : (q : ℕ → Bool) (k : ℕ) → filter q (range_with_len 0 (k + 1)) ≡ filter q (range_with_len 0 k) ++ cond (q k) (k ∷ []) []
passed_more q k =
    let e = filter_of_map_range_with_len_more q (λ i. i) 0 k k (omega arith) in
    ap (filter q) (sym (map-id (range_with_len 0 (k + 1)))) ∙ e ∙ ap (λ l. filter q l ++ cond (q k) (k ∷ []) []) (map-id (range_with_len 0 k))

-- one domain more: its time, where it is in the set
module _ (f : ℕ → ℕ) (set k : ℕ) (old now : List ℕ) where
  abbrev pub times_below : ℕ → List ℕ
  times_below j = times_text (map f (filter (λ i. in_set i set) (range_with_len 0 j)))

  more : times_below (k + 1) ≡ times_below k ++ times_text (map f (cond (in_set k set) (k ∷ []) []))
  more =
      let ks = filter (λ i. in_set i set) (range_with_len 0 k) in
      let last = cond (in_set k set) (k ∷ []) [] in
      ap (λ l. times_text (map f l)) (passed_more (λ i. in_set i set) k) ∙ ap times_text (map-append f ks last) ∙ times_append (map f ks) (map f last)

  pub time_in : now ≡ old ++ times_below k → in_set k set ≡ true → now ++ (32 ∷ hex 8 (f k)) ≡ old ++ times_below (k + 1)
  time_in h e =
      ap (λ l. l ++ (32 ∷ hex 8 (f k))) h ∙ append_assoc old (times_below k) (32 ∷ hex 8 (f k)) ∙ ap (λ l. old ++ l) (sym (more ∙ ap (λ b. times_below k ++ times_text (map f (cond b (k ∷ []) []))) e ∙ ap (λ l. times_below k ++ (32 ∷ l)) (append-nil (hex 8 (f k)))))

  pub time_out : now ≡ old ++ times_below k → in_set k set ≡ false → now ≡ old ++ times_below (k + 1)
  time_out h e =
      h ∙ ap (λ l. old ++ l) (sym (more ∙ ap (λ b. times_below k ++ times_text (map f (cond b (k ∷ []) []))) e ∙ append-nil (times_below k)))

-- three texts appended, and four
pub three : (w : List ℕ) {x y z : List ℕ} (p q r : List ℕ) → x ≡ w ++ p → y ≡ x ++ q → z ≡ y ++ r → z ≡ w ++ (p ++ q ++ r)
three w p q r a b c = c ∙ ap (λ l. l ++ r) (b ∙ ap (λ l. l ++ q) a ∙ append_assoc w p q) ∙ append_assoc w (p ++ q) r

pub four_texts : (w : List ℕ) {x y z v : List ℕ} (p q r s : List ℕ) → x ≡ w ++ p → y ≡ x ++ q → z ≡ y ++ r → v ≡ z ++ s → v ≡ w ++ (p ++ q ++ r ++ s)
four_texts w p q r s a b c d = d ∙ ap (λ l. l ++ s) (three w p q r a b c) ∙ append_assoc w (p ++ q ++ r) s
