-- Signals that are entered without a refusal, and the plan that they come to. Assumes nothing.
use Rattle.std.proofs.Common.{◌≡◌, ℕ, ◌≤◌, List, [], ◌∷◌, ◌++◌, map, Option, refl, ap, sym}
use Rattle.frames.specs.declared.row.Row.{Row}
use Rattle.domains.specs.Duties.{Duties}
use Rattle.signals.specs.declared.signal.Signal.{Signal}
use Rattle.packing.specs.Packings.{Packing}
use Rattle.timing.specs.Laws.{Laws}
use Rattle.timing.proofs.Combining.{everywhere_laws}
use Rattle.weights.proofs.Weighing.{cost_grows}
use Rattle.plan.specs.Banks.{Bank, bank_of, in_time}
use Rattle.plan.specs.Closes.{ordered}
use Rattle.plan.specs.Drafts.{entered}
use Rattle.plan.specs.Said.Said.{gives}
use Rattle.runs.specs.declared.call.Call.{Call}
use Rattle.runs.specs.declared.call.Call.TheVariants.{Enter, Close, Order}
use Rattle.runs.specs.Books.{new, draft, run, replies, shut}
use Rattle.runs.specs.Replies.{of_change}
use Rattle.runs.proofs.Promises.{promised}
use Rattle.sheet.specs.Comes.{empty}
use Rattle.sheet.specs.Plans.{calls, PlanOf}
use Rattle.sheet.specs.Signals.{Taken}

module _ (m : Bank) where
  taken_run : (p : Packing) (ss : List Signal) (q : Packing) (cs : List Call) → Taken m p ss q → run m (draft p) (map Enter ss ++ cs) ≡ run m (draft q) cs
  taken_run p [] q cs t = ap (λ x. run m (draft x) cs) (sym t)
  taken_run p (s ∷ ss) q cs t = taken_run (entered m.domains m.cost p s) ss q cs t.1

  taken_said : (p : Packing) (ss : List Signal) (q : Packing) (cs : List Call) → Taken m p ss q
      → replies m (draft p) (map Enter ss ++ cs) ≡ map (λ s. of_change (gives [])) ss ++ replies m (draft q) cs
  taken_said p [] q cs t = ap (λ x. replies m (draft x) cs) (sym t)
  taken_said p (s ∷ ss) q cs t = rw t.0 (ap (λ l. of_change (gives []) ∷ l) (taken_said (entered m.domains m.cost p s) ss q cs t.1))

  plan_of : Laws (in_time m) → m.domains ≤ 4 → ((k a b : ℕ) → a ≤ b → b ≤ 64 → m.cost k a ≤ m.cost k b) → (ss : List Signal) (p : Packing) → Taken m empty ss p → PlanOf m ss p
  plan_of laws at_most up ss p t = record {
    promise = promised m laws at_most up (calls ss) (shut p (ordered m p)) (replies m new (calls ss)) (sym (taken_run empty ss p (Close ∷ Order ∷ []) t)) refl;
    said = taken_said empty ss p (Close ∷ Order ∷ []) t;
  }

-- over a bank that keeps the duties
pub plan_by : {B : Type 0} {count : B → ℕ} {cost : B → ℕ → ℕ → ℕ} {response : B → ℕ → Row → List Row → List Row → Option ℕ} → Duties count cost response
    → (b : B) (ss : List Signal) (p : Packing) → Taken (bank_of (count b) (cost b) (response b)) empty ss p → PlanOf (bank_of (count b) (cost b) (response b)) ss p
plan_by {count = n} {cost = c} {response = r} duties b = plan_of (bank_of (n b) (c b) (r b)) (everywhere_laws duties b) (duties.sized b).1 (cost_grows n c r duties b)
