-- A text is read as one line, or as one fault of a line. Assumes nothing.
use Rattle.std.proofs.Common.{◌≡◌, ℕ, List, [], ◌∷◌, ◌++◌, refl, sym, ap, subst, ◌∙◌, append_assoc}
use Rattle.std.specs.Prelude.{Ok, Err}
use Rattle.fields.specs.Fields.{AllFit, LineEnd, fields}
use Rattle.fields.proofs.Fielding.{fields_apart, line_end_unique}
use Rattle.sheet.specs.declared.fault.SheetFault.{SheetFault}
use Rattle.sheet.specs.Faults.{at_field}
use Rattle.sheet.specs.Forms.{Form, line}
use Rattle.sheet.specs.Lines.{OutOfForm, AtFault}
use Rattle.sheet.specs.Lines.OutOfForm.{first, later}
use Rattle.sheet.specs.Lines.AtFault.{form, asked}

module _ (f : Form) where
  line_shape : (vs r : List ℕ) → line f vs ++ r ≡ f.first ∷ (fields f.widths vs ++ (10 ∷ r))
  line_shape vs r = ap (λ t. f.first ∷ t) (append_assoc (fields f.widths vs) (10 ∷ []) r)

  -- the same text is that of a line with the same values, whatever follows it
  pub line_apart : (vs us r q : List ℕ) → AllFit f.widths vs → AllFit f.widths us → line f vs ++ r ≡ line f us ++ q
      → (vs ≡ us) × (r ≡ q)
  line_apart vs us r q h g e =
      let ends : f.first ∷ (fields f.widths vs ++ (10 ∷ r)) ≡ f.first ∷ (fields f.widths us ++ (10 ∷ q)) = sym (line_shape vs r) ∙ e ∙ line_shape us q in
      let tails : fields f.widths vs ++ (10 ∷ r) ≡ fields f.widths us ++ (10 ∷ q) = cc in
      let same = fields_apart f.widths vs us (10 ∷ r) (10 ∷ q) h g tails in
      (same.0, cc same.1)

  module _ (n : ℕ) (s : List ℕ) where
    out_of_form_one : (e x : SheetFault) → OutOfForm f n s e → OutOfForm f n s x → e ≡ x
    out_of_form_one e x (first h) (first g) = refl
    out_of_form_one e x (first h) (later t y is end) = absurd (h t is)
    out_of_form_one e x (later t y is end) (first h) = absurd (h t is)
    out_of_form_one e x (later t y is end) (later u z has other) =
        let both : f.first ∷ u ≡ f.first ∷ t = sym has ∙ is in
        let tails : u ≡ t = cc both in
        let same = line_end_unique f.widths t (Err y) (Err z) end (subst (λ k. LineEnd f.widths k (Err z)) tails other) in
        let faults : y ≡ z = cc same in
        ap (at_field n) faults

    -- a text that goes on with a line is not out of its form
    out_of_form_no : (e : SheetFault) (vs r : List ℕ) → AllFit f.widths vs → s ≡ line f vs ++ r → OutOfForm f n s e → ⊥
    out_of_form_no e vs r h is (first g) = g (fields f.widths vs ++ (10 ∷ r)) (is ∙ line_shape vs r)
    out_of_form_no e vs r h is (later t y has end) =
        let both : f.first ∷ t ≡ f.first ∷ (fields f.widths vs ++ (10 ∷ r)) = sym has ∙ is ∙ line_shape vs r in
        let tails : t ≡ fields f.widths vs ++ (10 ∷ r) = cc both in
        let same = line_end_unique f.widths t (Ok (vs, r)) (Err y) (h, tails) end in
        cc same

    module _ (Refused : List ℕ → SheetFault → Type 0) where
      -- a line has one fault where the values that are refused have one
      pub at_fault_one : ((vs : List ℕ) (e x : SheetFault) → Refused vs e → Refused vs x → e ≡ x)
          → (e x : SheetFault) → AtFault f n Refused s e → AtFault f n Refused s x → e ≡ x
      at_fault_one one e x (form h) (form g) = out_of_form_one e x h g
      at_fault_one one e x (form h) (asked vs r fit is why) = absurd (out_of_form_no e vs r fit is h)
      at_fault_one one e x (asked vs r fit is why) (form g) = absurd (out_of_form_no x vs r fit is g)
      at_fault_one one e x (asked vs r fit is why) (asked us q fits has other) =
          let same = line_apart vs us r q fit fits (sym is ∙ has) in
          one us e x (subst (λ k. Refused k e) same.0 why) other

      -- and none where they are not refused
      pub at_fault_no : (e : SheetFault) (vs r : List ℕ) → AllFit f.widths vs → s ≡ line f vs ++ r → (Refused vs e → ⊥)
          → AtFault f n Refused s e → ⊥
      at_fault_no e vs r h is none (form g) = out_of_form_no e vs r h is g
      at_fault_no e vs r h is none (asked us q fit has why) =
          let same = line_apart us vs q r fit h (sym has ∙ is) in
          none (subst (λ k. Refused k e) same.0 why)
