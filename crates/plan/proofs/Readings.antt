-- What the readings look up. Assumes nothing.
use Rattle.std.proofs.Common.{◌≡◌, ℕ, zero, suc, ◌+◌, ◌<◌, ◌≤◌, Bool, true, false, List, [], ◌∷◌, length, get_or, take, Some, None, Ok, Err, is_ok, Result, sym, refl, ap, ◌∙◌, ap₂, arith}
use Rattle.std.proofs.lemmas.Bool.Decides.{nat_tests}
use Rattle.std.specs.List.{AllByRecursion}
use Rattle.std.proofs.ByRecursion.{All-weaker}
use Rattle.std.proofs.lemmas.List.{length-take-le, get_or-take}
use Rattle.std.proofs.lemmas.Bool.{cond-true, lt-ltb}
use Rattle.frames.specs.declared.row.Row.{Row}
use Rattle.frames.specs.declared.frame.Frame.{Frame}
use Rattle.frames.specs.Limits.{Lawful}
use Rattle.frames.specs.declared.fault.RowFault.{RowFault}
use Rattle.frames.specs.Records.{Checked}
use Rattle.frames.proofs.Lawfuls.{breaks_unlawful}
use Rattle.domains.specs.declared.place.Place.{Place}
use Rattle.domains.specs.declared.place.Place.TheVariants.{Above}
use Rattle.shelf.specs.Numbers.{chosen}
use Rattle.shelf.proofs.Numbering.{chosen_from}
use Rattle.signals.specs.Names.{place_of, no_entry}
use Rattle.packing.specs.Packings.{Packing}
use Rattle.ordering.specs.declared.conflicts.Conflict.{Conflict}
use Rattle.timing.specs.Places.{is_above, above}
use Rattle.plan.specs.declared.fault.PlanFault.TheVariants.{NameUnknown}
use Rattle.plan.specs.declared.closed.Standing.{Standing}
use Rattle.plan.specs.declared.closed.Standing.TheVariants.{Clashing}
use Rattle.plan.specs.Closes.{frame_at, frame_says, bit, member_says}
use Rattle.plan.specs.Faults.{plan_told}
use Rattle.plan.specs.Holds.{stands_of}
use Rattle.plan.specs.Said.{unless_refused}
use Rattle.plan.specs.Said.Said.{gives, refuses}
use Rattle.plan.specs.Stands.{among}
use Rattle.plan.proofs.Asking.{unknown, known}

-- whether a number was chosen
among_none : (k : ℕ) (xs : List ℕ) → AllByRecursion (λ y. k < y) xs → among k xs ≡ false
among_none k [] h = refl
among_none k (x ∷ xs) h = grind (arith, nat_tests, h.0, among_none k xs h.1)

among_chosen : {P : Type 0} (is : P → Bool) (i : ℕ) (ps : List P) (n : ℕ) (d : P) → n < length ps → among (i + n) (chosen is i ps) ≡ is (get_or ps n d)
among_chosen is i [] n d l = absurd (omega arith)
among_chosen is i (p ∷ ps) zero d l =
    let r = chosen is (i + 1) ps in
    let no : among (i + 0) r ≡ false = among_none (i + 0) r (All-weaker (λ y. i + 1 ≤ y) (λ y. i + 0 < y) (λ y k. omega arith) r (chosen_from is (i + 1) ps)) in
    grind (arith, nat_tests)
among_chosen is i (p ∷ ps) (suc n) d l =
    let r = chosen is (i + 1) ps in
    let e : i + suc n ≡ i + 1 + n = omega arith in
    let ih : among (i + suc n) r ≡ is (get_or ps n d) = ap (λ k. among k r) e ∙ among_chosen is (i + 1) ps n d (omega arith) in
    grind (arith, nat_tests, ih)

pub among_above : (table : List Place) (frames n : ℕ) → n < frames → frames ≤ length table → among n (above (take frames table)) ≡ is_above (get_or table n Above)
among_above table frames n l f =
    let z : 0 + n ≡ n = omega arith in
    let t = take frames table in
    ap (λ k. among k (above t)) (sym z) ∙ among_chosen is_above 0 t n Above (omega (arith, length-take-le frames table f)) ∙ ap is_above (get_or-take frames table n Above l)

-- a signal's frame
module _ (p : Packing) (name : ℕ) where
  pub frame_found : (i : ℕ) → place_of name 0 p.signals ≡ Some i → gives ((get_or p.signals i no_entry).frame ∷ []) ≡ frame_says p name
  frame_found i e = sym (ap₂ (λ o q. unless_refused (frame_at p o ∷ []) q) e (known p name i e))

  pub frame_unknown : place_of name 0 p.signals ≡ None → refuses (plan_told NameUnknown) ≡ frame_says p name
  frame_unknown e = sym (ap₂ (λ o q. unless_refused (frame_at p o ∷ []) q) e (unknown p name e))

-- a frame's record
pub record_there : (r : Row) (o : Result Frame RowFault) → Checked r o → Lawful r → is_ok o ≡ true
record_there r (Ok f) c h = refl
record_there r (Err e) c h = absurd (breaks_unlawful r e c h)

-- what is read of the conflict that stands
pub member_is : (p : Packing) (st : Standing) (n : ℕ) → n < p.frames → (c : Conflict) → st ≡ Clashing c → (b : Bool) → b ≡ is_above (get_or c.table n Above) → p.frames ≤ length c.table → gives (bit b ∷ []) ≡ member_says p (stands_of p.frames st) n
member_is p st n l c e b is fits =
    let cs = above (take p.frames c.table) in
    ap (λ x. gives (bit x ∷ [])) (is ∙ sym (among_above c.table p.frames n l fits))
    ∙ sym (ap (λ s. member_says p (stands_of p.frames s) n) e ∙ ap (unless_refused (bit (among n cs) ∷ [])) (cond-true _ _ _ (lt-ltb _ _ l)))
