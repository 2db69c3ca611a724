-- Fields: that they mean one list of values, and how one more is read. Assumes nothing.
use Rattle.std.proofs.Common.{◌≡◌, ℕ, zero, suc, ◌+◌, ◌-◌, ◌^◌, ◌<◌, ◌≤◌, List, [], ◌∷◌, ◌++◌, length, take, set, get_or, refl, sym, ap, ◌∙◌, arith, append_assoc, length-set}
use Rattle.std.specs.Prelude.{Result, Ok, Err}
use Rattle.std.proofs.lemmas.List.{append-nil, take_more, take_more_set, take_all}
use Rattle.fields.specs.declared.reading.FieldFault.{FieldFault}
use Rattle.fields.specs.declared.reading.FieldFault.TheVariants.{Digits, Feed}
use Rattle.fields.specs.Hex.{hex}
use Rattle.fields.specs.Fields.{fields, AllFit, Begins, LineEnd}
use Rattle.fields.proofs.Hexing.{hex_apart}

-- the same text stands for the same values, whatever follows it
pub fields_apart : (ws vs us r q : List ℕ) → AllFit ws vs → AllFit ws us → fields ws vs ++ r ≡ fields ws us ++ q → (vs ≡ us) × (r ≡ q)
fields_apart [] [] [] r q f g h = (refl, h)
fields_apart [] [] (u ∷ us) r q f g h = absurd g
fields_apart [] (v ∷ vs) us r q f g h = absurd f
fields_apart (w ∷ ws) [] us r q f g h = absurd f
fields_apart (w ∷ ws) (v ∷ vs) [] r q f g h = absurd g
fields_apart (w ∷ ws) (v ∷ vs) (u ∷ us) r q f g h =
    let e : (hex w v ++ fields ws vs) ++ r ≡ (hex w u ++ fields ws us) ++ q = cc in
    let e₁ = sym (append_assoc (hex w v) (fields ws vs) r) ∙ e ∙ append_assoc (hex w u) (fields ws us) q in
    let head = hex_apart w v u (fields ws vs ++ r) (fields ws us ++ q) f.0 g.0 e₁ in
    let tail = fields_apart ws vs us r q f.1 g.1 head.1 in
    (cc (head.0, tail.0), tail.1)

-- one field more
fit_more : (ws vs : List ℕ) (w v : ℕ) → AllFit ws vs → v < 16 ^ w → AllFit (ws ++ (w ∷ [])) (vs ++ (v ∷ []))
fit_more [] [] w v f l = (l, tt)
fit_more [] (y ∷ vs) w v f l = absurd f
fit_more (x ∷ ws) [] w v f l = absurd f
fit_more (x ∷ ws) (y ∷ vs) w v f l = (f.0, fit_more ws vs w v f.1 l)

fields_more : (ws vs : List ℕ) (w v : ℕ) (r : List ℕ) → AllFit ws vs → fields (ws ++ (w ∷ [])) (vs ++ (v ∷ [])) ++ r ≡ fields ws vs ++ (32 ∷ (hex w v ++ r))
fields_more [] [] w v r f = ap (λ t. 32 ∷ (t ++ r)) (append-nil (hex w v))
fields_more [] (y ∷ vs) w v r f = absurd f
fields_more (x ∷ ws) [] w v r f = absurd f
fields_more (x ∷ ws) (y ∷ vs) w v r f =
    ap (λ t. 32 ∷ t) (append_assoc (hex x y) (fields (ws ++ (w ∷ [])) (vs ++ (v ∷ []))) r ∙ ap (λ t. hex x y ++ t) (fields_more ws vs w v r f.1) ∙ sym (append_assoc (hex x y) (fields ws vs) (32 ∷ (hex w v ++ r))))

-- values that fit with one width more are values that fit, and one more
record Last (ws : List ℕ) (w : ℕ) (us : List ℕ) : Type 0 where
  values : List ℕ
  value : ℕ
  fit : AllFit ws values
  low : value < 16 ^ w
  is : us ≡ values ++ (value ∷ [])

last : (ws : List ℕ) (w : ℕ) (us : List ℕ) → AllFit (ws ++ (w ∷ [])) us → Last ws w us
last [] w [] f = absurd f
last [] w (u ∷ []) f = record { values = []; value = u; fit = tt; low = f.0; is = refl }
last [] w (u ∷ x ∷ us) f = absurd f.1
last (x ∷ ws) w [] f = absurd f
last (x ∷ ws) w (u ∷ us) f =
    let above = last ws w us f.1 in
    record { values = u ∷ above.values; value = above.value; fit = (f.0, above.fit); low = above.low; is = ap (λ t. u ∷ t) above.is }

-- the first i fields are read
pub record FieldsRead (ws : List ℕ) (i : ℕ) (values s rest : List ℕ) : Type 0 where
  pub sized : length values ≡ length ws
  pub fit : AllFit (take i ws) (take i values)
  pub is : s ≡ fields (take i ws) (take i values) ++ rest

pub fields_none : (ws values s : List ℕ) → length values ≡ length ws → FieldsRead ws 0 values s s
fields_none ws values s l = record { sized = l; fit = tt; is = refl }

module _ (ws : List ℕ) (i : ℕ) (values s rest : List ℕ) (read : FieldsRead ws i values s rest) where
  pub fields_one_more : i < length ws → (v : ℕ) (after : List ℕ) → v < 16 ^ get_or ws i 0 → rest ≡ 32 ∷ (hex (get_or ws i 0) v ++ after) → FieldsRead ws (i + 1) (set values i v) s after
  fields_one_more l v after low h =
      let w = get_or ws i 0 in
      let sized = read.sized in
      let widths : take (i + 1) ws ≡ take i ws ++ (w ∷ []) = take_more ws i 0 l in
      let numbers : take (i + 1) (set values i v) ≡ take i values ++ (v ∷ []) = take_more_set values i v (omega arith) in
      record {
        sized = length-set values i v ∙ sized;
        fit = rw (widths, numbers) (fit_more (take i ws) (take i values) w v read.fit low);
        is = rw (widths, numbers) (read.is ∙ ap (λ t. fields (take i ws) (take i values) ++ t) h ∙ sym (fields_more (take i ws) (take i values) w v after read.fit));
      }

  -- the next field is none
  pub fields_stop : i < length ws → ((v : ℕ) (after : List ℕ) → v < 16 ^ get_or ws i 0 → rest ≡ 32 ∷ (hex (get_or ws i 0) v ++ after) → ⊥) → LineEnd ws s (Err (Digits (i + 1)))
  fields_stop l none =
      let w = get_or ws i 0 in
      let before : i + 1 - 1 ≡ i = omega arith in
      let widths : take (i + 1) ws ≡ take i ws ++ (w ∷ []) = take_more ws i 0 l in (
        omega arith,
        omega arith,
        rw before (record { values = take i values; rest = rest; fit = read.fit; is = read.is }),
        λ more.
            let end = last (take i ws) w more.values (rw widths at more.fit) in
            let text : s ≡ fields (take i ws ++ (w ∷ [])) (end.values ++ (end.value ∷ [])) ++ more.rest = (rw (widths, end.is) at more.is) in
            let same = fields_apart (take i ws) (take i values) end.values rest (32 ∷ (hex w end.value ++ more.rest)) read.fit end.fit (sym read.is ∙ text ∙ fields_more (take i ws) end.values w end.value more.rest end.fit) in
            none end.value more.rest end.low same.1,
      )

module _ (ws : List ℕ) (i : ℕ) (values s rest : List ℕ) (read : FieldsRead ws i values s rest) (all : i ≡ length ws) where
  whole_fit : AllFit ws values
  whole_fit =
      let sized = read.sized in
      rw (take_all i ws (omega arith), take_all i values (omega arith)) at read.fit

  whole_text : s ≡ fields ws values ++ rest
  whole_text =
      let sized = read.sized in
      rw (take_all i ws (omega arith), take_all i values (omega arith)) at read.is

  pub fields_all : (after : List ℕ) → rest ≡ 10 ∷ after → LineEnd ws s (Ok (values, after))
  fields_all after h = (whole_fit, whole_text ∙ ap (λ t. fields ws values ++ t) h)

  -- no line feed follows
  pub fields_no_feed : ((after : List ℕ) → rest ≡ 10 ∷ after → ⊥) → LineEnd ws s (Err (Feed (i + 1)))
  fields_no_feed none = (
    omega arith,
    record { values = values; rest = rest; fit = rw (take_all (length ws) ws (omega arith)) whole_fit; is = rw (take_all (length ws) ws (omega arith)) whole_text },
    λ vs more fit h. none more (fields_apart ws values vs rest (10 ∷ more) whole_fit fit (sym whole_text ∙ h)).1,
  )

-- ---- a text is read as one thing
-- fewer fields are written where some are
fewer : (ws vs : List ℕ) (k n : ℕ) (r : List ℕ) → k ≤ n → n ≤ length ws → AllFit (take n ws) vs → Begins ws k (fields (take n ws) vs ++ r)
fewer ws vs zero n r l m f = record { values = []; rest = fields (take n ws) vs ++ r; fit = tt; is = refl }
fewer ws vs (suc k) zero r l m f = absurd (omega arith)
fewer [] vs (suc k) (suc n) r l m f = absurd (omega arith)
fewer (w ∷ ws) [] (suc k) (suc n) r l m f = absurd f
fewer (w ∷ ws) (v ∷ vs) (suc k) (suc n) r l m f =
    let b = fewer ws vs k n r (omega arith) (omega arith) f.1 in
    record {
      values = v ∷ b.values;
      rest = b.rest;
      fit = (f.0, b.fit);
      is = ap (λ t. 32 ∷ t) (append_assoc (hex w v) (fields (take n ws) vs) r ∙ ap (λ t. hex w v ++ t) b.is ∙ sym (append_assoc (hex w v) (fields (take k ws) b.values) b.rest));
    }

begins_fewer : (ws : List ℕ) (k n : ℕ) (s : List ℕ) → k ≤ n → n ≤ length ws → Begins ws n s → Begins ws k s
begins_fewer ws k n s l m b =
    let c = fewer ws b.values k n b.rest l m b.fit in
    record { values = c.values; rest = c.rest; fit = c.fit; is = b.is ∙ c.is }

-- so a line that is read begins with each number of its fields
begins_whole : (ws s : List ℕ) (read : List ℕ × List ℕ) (k : ℕ) → k ≤ length ws → LineEnd ws s (Ok read) → Begins ws k s
begins_whole ws s read k l h =
    begins_fewer ws k (length ws) s l (omega arith) (record {
      values = read.0;
      rest = 10 ∷ read.1;
      fit = rw (take_all (length ws) ws (omega arith)) h.0;
      is = rw (take_all (length ws) ws (omega arith)) h.1;
    })

same_values : (ws s : List ℕ) (a b : List ℕ × List ℕ) → LineEnd ws s (Ok a) → LineEnd ws s (Ok b) → a ≡ b
same_values ws s a b h g =
    let e = fields_apart ws a.0 b.0 (10 ∷ a.1) (10 ∷ b.1) h.0 g.0 (sym h.1 ∙ g.1) in
    let rest : a.1 ≡ b.1 = cc e.1 in
    let P : List ℕ → List ℕ → List ℕ × List ℕ = λ x y. (x, y) in
    ap (λ x. P x a.1) e.0 ∙ ap (λ y. P b.0 y) rest

-- of two fields at fault none is before the other
not_before : (ws s : List ℕ) (k j : ℕ) → LineEnd ws s (Err (Digits k)) → LineEnd ws s (Err (Digits j)) → k < j → ⊥
not_before ws s k j h g l = h.3 (begins_fewer ws k (j - 1) s (omega arith) (omega (arith, g.1)) g.2)

pub line_end_unique : (ws s : List ℕ) (r q : Result (List ℕ × List ℕ) FieldFault) → LineEnd ws s r → LineEnd ws s q → r ≡ q
line_end_unique ws s (Ok a) (Ok b) h g = ap Ok (same_values ws s a b h g)
line_end_unique ws s (Ok a) (Err (Digits k)) h g = absurd (g.3 (begins_whole ws s a k g.1 h))
line_end_unique ws s (Ok a) (Err (Feed k)) h g = absurd (g.2 a.0 a.1 h.0 h.1)
line_end_unique ws s (Err (Digits k)) (Ok b) h g = absurd (h.3 (begins_whole ws s b k h.1 g))
line_end_unique ws s (Err (Digits k)) (Err (Digits j)) h g =
    let up = not_before ws s k j h g in
    let down = not_before ws s j k g h in
    let same : k ≡ j = omega (arith, up, down) in
    ap (λ n. Err (Digits n)) same
line_end_unique ws s (Err (Digits k)) (Err (Feed j)) h g =
    absurd (h.3 (begins_fewer ws k (length ws) s h.1 (omega arith) g.1))
line_end_unique ws s (Err (Feed k)) (Ok b) h g = absurd (h.2 b.0 b.1 g.0 g.1)
line_end_unique ws s (Err (Feed k)) (Err (Digits j)) h g =
    absurd (g.3 (begins_fewer ws j (length ws) s g.1 (omega arith) h.1))
line_end_unique ws s (Err (Feed k)) (Err (Feed j)) h g = ap (λ n. Err (Feed n)) (h.0 ∙ sym g.0)
