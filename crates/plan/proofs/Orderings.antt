-- What order answers and leaves, by what the search found. Assumes nothing.
use Rattle.std.proofs.Common.{◌≡◌, ◌≤◌, Bool, true, false, [], ◌∷◌, length, take, sym, refl, ap, ◌∙◌, ap₂, subst}
use Rattle.std.proofs.lemmas.Bool.{true≢false}
use Rattle.lists.specs.Items.{items}
use Rattle.packing.specs.Packings.{Packing, rows}
use Rattle.timing.specs.Laws.{Laws}
use Rattle.timing.specs.Places.{above}
use Rattle.ordering.specs.Answers.{Placed, Refused}
use Rattle.ordering.specs.declared.conflicts.Conflict.{Conflict}
use Rattle.ordering.specs.declared.orders.Placement.{Placement}
use Rattle.plan.specs.declared.fault.PlanFault.TheVariants.{NoOrder}
use Rattle.plan.specs.Banks.{Bank, in_time}
use Rattle.plan.specs.Closes.{standing_after, ordered, order_answers, order_says}
use Rattle.plan.specs.Faults.{plan_told}
use Rattle.plan.specs.Said.{Said}
use Rattle.plan.specs.Said.Said.{gives, refuses}
use Rattle.plan.specs.Stands.{Stands}
use Rattle.plan.specs.Stands.Stands.{order, conflict}
use Rattle.plan.specs.Subject.{HasOrder, Iff, Upheld}
use Rattle.packing.proofs.Rowed.{rows_long}
use Rattle.plan.proofs.Upholding.{has_order, no_order, ordered_upheld}

-- what order answers and leaves standing, and whether there is an order
pub record Outcome (m : Bank) (p : Packing) (answer : Said) (left : Stands) (given : Bool) : Type 0 where
  pub says : answer ≡ order_says m p
  pub stands : left ≡ ordered m p
  pub refused : Iff (given ≡ false) (HasOrder m (rows p) → ⊥)
  pub upheld : Upheld m p left

module _ (m : Bank) (laws : Laws (in_time m)) (p : Packing) (few : p.frames ≤ 96) where
  pub order_given : (pl : Placement) → Placed (in_time m) (rows p) pl → Outcome m p (gives (length (items pl.numbers) ∷ pl.examinations ∷ [])) (order (items pl.numbers)) true
  order_given pl h =
      let stand : order (items pl.numbers) ≡ ordered m p = sym (ap (standing_after m p) h.is) in
      record {
        says = ap₂ (λ x y. gives (x ∷ y ∷ [])) h.count h.examinations ∙ sym (ap (order_answers m p) h.is);
        stands = stand;
        refused = (λ e. absurd (true≢false e), λ n. absurd (n (has_order m laws p _ h.is)));
        upheld = subst (Upheld m p) (sym stand) (ordered_upheld m laws p few);
      }

  pub order_refused : (c : Conflict) → Refused (in_time m) (rows p) c → Outcome m p (refuses (plan_told (NoOrder c.size))) (conflict (above (take p.frames c.table))) false
  order_refused c h =
      let stand : conflict (above (take p.frames c.table)) ≡ ordered m p = ap (λ n. conflict (above (take n c.table))) (sym (rows_long p.signals p.frames)) ∙ ap conflict h.is ∙ sym (ap (standing_after m p) h.none) in
      record {
        says = ap (λ n. refuses (plan_told (NoOrder n))) h.size ∙ sym (ap (order_answers m p) h.none);
        stands = stand;
        refused = (λ _. no_order m laws p h.none, λ _. refl);
        upheld = subst (Upheld m p) (sym stand) (ordered_upheld m laws p few);
      }
