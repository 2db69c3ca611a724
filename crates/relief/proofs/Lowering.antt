-- A frame that is left out stands no higher than before. Assumes nothing.
use Rattle.std.proofs.Common.{◌≡◌, ℕ, ◌-◌, ◌<◌, ◌≤◌, Bool, true, cond, eqb, List, length, get_or, set, is_some, Some, None, Option, sym, refl, ap, ◌∙◌, subst, subst₂, ⊎_elim, arith}
use Rattle.std.proofs.lemmas.Grind.{common_steps}
use Rattle.std.proofs.lemmas.List.{set_past}
use Rattle.std.proofs.lemmas.Bool.{cases_lt}
use Rattle.frames.specs.declared.row.Row.{Row}
use Rattle.shelf.specs.Times.{NoLater}
use Rattle.domains.specs.declared.place.Place.{Place}
use Rattle.domains.specs.declared.place.Place.TheVariants.{Absent}
use Rattle.domains.specs.Asked.{stance, asked}
use Rattle.domains.specs.Duties.{Duties}
use Rattle.domains.specs.Replies.{Lower}
use Rattle.domains.proofs.Asking.{call_laws}
use Rattle.relief.specs.Gains.{Gains}

lower_refl : (p : Place) → Lower p p
lower_refl p = grind arith

lower_absent : (p : Place) → Lower p Absent
lower_absent p = grind arith

lower_if : (b : Bool) (p q : Place) → Lower p q → Lower (cond b Absent p) (cond b Absent q)
lower_if b p q h = grind arith

within : (places : List Place) (f i : ℕ) → i < length places → (j : ℕ) → Lower (stance places f j) (stance (set places i Absent) f j)
within places f i h j =
    lower_if (eqb j f) (get_or places j Absent) (get_or (set places i Absent) j Absent)
    (let here = lower_absent (get_or places j Absent) in
    let other = lower_refl (get_or places j Absent) in
    grind (arith, common_steps))

left_out : (places : List Place) (f i j : ℕ) → Lower (stance places f j) (stance (set places i Absent) f j)
left_out places f i j =
    ⊎_elim {C = Lower (stance places f j) (stance (set places i Absent) f j)} (λ h. within places f i h j)
    (λ h. subst (λ (ps : List Place). Lower (stance places f j) (stance ps f j)) (sym (set_past places i Absent h)) (lower_refl (stance places f j))) (cases_lt i (length places))

-- what the second answer is, where the first is a time
stays : (o u : Option ℕ) → NoLater o u → (t : ℕ) → o ≡ Some t → (v : ℕ) × (u ≡ Some v) × (v ≤ t)
stays o u h t e = grind arith

gains_some : (o u r : Option ℕ) (t v : ℕ) → o ≡ Some t → u ≡ Some v → v ≤ t → r ≡ Some (t - v) → Gains o u r
gains_some o u r t v e k h g = subst (λ (x : Option ℕ). Gains x u r) (sym e) (v, k, h, g)

pub gains_none : (o u r : Option ℕ) → o ≡ None → r ≡ None → Gains o u r
gains_none o u r e g = subst (λ (x : Option ℕ). Gains x u r) (sym e) g

-- the answer without frame i is no later than the one with it
module _ {D : Type 0} {count : D → ℕ} {cost : D → ℕ → ℕ → ℕ} {response : D → ℕ → Row → List Row → List Row → Option ℕ} (duties : Duties count cost response)
    (d : D) (k : ℕ) (rows : List Row) (places after : List Place) (f i t : ℕ) (o : Option ℕ)
    (first : Some t ≡ asked (response d k) rows places f) (left : after ≡ set places i Absent) (second : o ≡ asked (response d k) rows after f) where
  pub eased : NoLater (Some t) o
  eased =
      subst₂ NoLater (sym first) (sym (second ∙ ap (λ ps. asked (response d k) rows ps f) left)) ((call_laws duties d k).lowered rows places (set places i Absent) f (left_out places f i))

  pub still_some : is_some o ≡ true
  still_some = ap is_some (stays (Some t) o eased t refl).1

  pub gain : (v : ℕ) → o ≡ Some v → Gains (asked (response d k) rows places f) (asked (response d k) rows (set places i Absent) f) (Some (t - v))
  gain v e =
      gains_some _ _ (Some (t - v)) t v (sym first) (sym (second ∙ ap (λ ps. asked (response d k) rows ps f) left) ∙ e) (subst (NoLater (Some t)) e eased) refl
