-- Orders and a plan worked by hand. Assumes nothing.
use Rattle.std.proofs.Common.{◌≡◌, ℕ, suc, ◌+◌, Bool, true, false, cond, ◌&&◌, List, [], ◌∷◌, is_some, Some, None, Option, refl, ap, ◌∙◌, ap₂, arith}
use Rattle.frames.specs.declared.row.Row.{Row}
use Rattle.frames.specs.Payloads.{payload}
use Rattle.shelf.specs.Numbers.{without}
use Rattle.shelf.specs.Smallest.{smallest, first_of}
use Rattle.streams.specs.Demands.{demand, ceil, weight}
use Rattle.domains.specs.Asked.{no_row, reply}
use Rattle.timing.specs.Carried.{timely}
use Rattle.timing.specs.Everywhere.{everywhere}
use Rattle.timing.specs.Places.{by_number}
use Rattle.signals.specs.Riders.{riders}
use Rattle.signals.specs.Rows.{row_by}
use Rattle.weights.specs.Weights.{weight_in, row_weight}
use Rattle.packing.specs.Choices.{growth_at, choice}
use Rattle.packing.specs.Packings.{placed, rows}
use Rattle.ordering.specs.Orders.{found, examined, at_place, greedy, examinations, orderable, shrink, at_row, order_of, examinations_of, conflict_of}
use Rattle.plan.specs.Banks.{in_time}
use Rattle.plan.specs.Closes.{standing_after, order_answers}
use Rattle.plan.specs.Drafts.{entered}
use Rattle.plan.specs.Questions.{enter_questions}
use Rattle.plan.specs.Said.{Said}
use Rattle.plan.specs.Said.Said.{gives}
use Rattle.plan.specs.Stands.Stands.{order}
use Rattle.runs.specs.Books.{new, run, replies}
use Rattle.runs.specs.Replies.{of_move, of_order}
use Rattle.bus.specs.Buses.{blocking}
use Rattle.worked.specs.Figures.{due}
use Rattle.worked.proofs.Working.{lower, alone, fast_answer}
use Rattle.worked_plans.specs.Figures.{timely_on_bus, four_domains, three_signals, shared, sole, entered_one}

-- ---- the frame examined first gets the place
module _ (t : ℕ → List ℕ → List ℕ → Bool) (m x : ℕ) (us bs : List ℕ) (e : at_place t (x ∷ us) bs x ≡ true) where
  order_next : greedy t (suc m) (x ∷ us) bs ≡ greedy t m (without x (x ∷ us)) (x ∷ bs)
  order_next =
      ap (λ (b : Bool). elim (cond b (Some x) (found (at_place t (x ∷ us) bs) us)) [ None ↦ None | Some y ↦ greedy t m (without y (x ∷ us)) (y ∷ bs) ]) e

  count_next : examinations t (suc m) (x ∷ us) bs ≡ 1 + examinations t m (without x (x ∷ us)) (x ∷ bs)
  count_next =
      ap (λ (b : Bool). cond b 1 (1 + examined (at_place t (x ∷ us) bs) us) + elim (cond b (Some x) (found (at_place t (x ∷ us) bs) us)) [ None ↦ 0 | Some y ↦ examinations t m (without y (x ∷ us)) (y ∷ bs) ]) e

-- ---- two frames that are in each other's way
abbrev both : List Row
both = due ∷ due ∷ []

abbrev timely_at : ℕ → List ℕ → List ℕ → Bool
timely_at = by_number timely_on_bus (at_row both no_row)

late : timely_on_bus due (due ∷ []) [] ≡ false
unfolding everywhere reply
late = ap (λ o. timely o 150000 && true) lower

in_time_alone : timely_on_bus due [] [] ≡ true
unfolding everywhere reply
in_time_alone = ap (λ o. timely o 150000 && true) alone

pub no_order : order_of timely_on_bus both no_row ≡ None
no_order =
    ap (λ (o : Option ℕ). elim o [ None ↦ None | Some y ↦ greedy timely_at 1 (without y (0 ∷ 1 ∷ [])) (y ∷ []) ]) (ap (λ b. cond b (Some 0) (cond b (Some 1) None)) late)

shrunk : (ok : List ℕ → Bool) → ok (1 ∷ []) ≡ true → ok (0 ∷ []) ≡ true → shrink ok (0 ∷ 1 ∷ []) (0 ∷ 1 ∷ []) ≡ 0 ∷ 1 ∷ []
shrunk ok a b = rw (a, b)

pub conflict : conflict_of timely_on_bus both no_row ≡ 0 ∷ 1 ∷ []
conflict =
    shrunk (orderable timely_at) (ap is_some (order_next timely_at 0 1 [] [] in_time_alone)) (ap is_some (order_next timely_at 0 0 [] [] in_time_alone))

-- ---- three signals
pub shared_answer : four_domains.response 0 shared (sole ∷ []) [] ≡ Some 234000
unfolding blocking demand ceil payload smallest first_of
shared_answer = fast_answer shared (sole ∷ []) [] 234000 92000 234000 refl (refl, refl, omega arith, refl, refl, refl, omega arith, refl)

pub sole_answer : four_domains.response 0 sole [] (shared ∷ []) ≡ Some 234000
unfolding blocking demand ceil payload smallest first_of
sole_answer = fast_answer sole [] (shared ∷ []) 234000 142000 234000 refl (refl, refl, omega arith, refl, refl, refl, omega arith, refl)

pub sole_alone : four_domains.response 1 sole [] [] ≡ Some 92000
unfolding blocking demand ceil payload smallest first_of
sole_alone = fast_answer sole [] [] 92000 0 92000 refl (refl, refl, omega arith, refl, refl, refl, omega arith, refl)

abbrev in_time_at : ℕ → List ℕ → List ℕ → Bool
in_time_at = by_number (in_time four_domains) (at_row (shared ∷ sole ∷ []) no_row)

shared_last : in_time four_domains shared (sole ∷ []) [] ≡ true
unfolding everywhere reply
shared_last = ap (λ o. timely o 10000000 && true) shared_answer

sole_first : in_time four_domains sole [] (shared ∷ []) ≡ true
unfolding everywhere reply
sole_first = ap₂ (λ o u. timely o 5000000 && (timely u 5000000 && true)) sole_answer sole_alone

order_is : order_of (in_time four_domains) (shared ∷ sole ∷ []) no_row ≡ Some (1 ∷ 0 ∷ [])
order_is = order_next in_time_at 1 0 (1 ∷ []) [] shared_last ∙ order_next in_time_at 0 1 [] (0 ∷ []) sole_first

count_is : examinations_of (in_time four_domains) (shared ∷ sole ∷ []) no_row ≡ 2
count_is = count_next in_time_at 1 0 (1 ∷ []) [] shared_last ∙ ap (λ n. 1 + n) (count_next in_time_at 0 1 [] (0 ∷ []) sole_first)

pub planned : (rows (run four_domains new three_signals).packing ≡ shared ∷ sole ∷ []) × ((run four_domains new three_signals).stands ≡ order (1 ∷ 0 ∷ [])) × (replies four_domains new three_signals ≡ entered_one ∷ entered_one ∷ entered_one ∷ of_move ∷ of_order (gives (2 ∷ 2 ∷ [])) ∷ [])
unfolding entered enter_questions choice growth_at row_weight weight_in weight ceil payload smallest first_of riders row_by placed
planned =
    let p = (run four_domains new three_signals).packing in (
      refl,
      ap (standing_after four_domains p) order_is,
      ap (λ (s : Said). entered_one ∷ entered_one ∷ entered_one ∷ of_move ∷ of_order s ∷ []) (ap (order_answers four_domains p) order_is ∙ ap (λ n. gives (2 ∷ n ∷ [])) count_is),
    )
