-- What order and the readings of a closed plan do and answer. Assumes nothing.
use Rattle.std.specs.Prelude.{ℕ, ◌+◌, ◌*◌, Bool, true, false, List, [], ◌∷◌, map, length, Some, None, Option, slice_index_or}
use Rattle.frames.specs.declared.row.Row.{Row}
use Rattle.domains.specs.Asked.{no_row}
use Rattle.signals.specs.Names.{place_of, no_entry}
use Rattle.packing.specs.Packings.{Packing, row, rows}
use Rattle.timing.specs.Ranked.{response_at}
use Rattle.ordering.specs.Orders.{order_of, examinations_of, conflict_of}
use Rattle.plan.specs.declared.fault.PlanFault.{PlanFault}
use Rattle.plan.specs.declared.fault.PlanFault.TheVariants.{NoOrder, NotCarried}
use Rattle.plan.specs.Banks.{Bank, in_time}
use Rattle.plan.specs.Faults.{plan_told}
use Rattle.plan.specs.Questions.{first_no, name_questions, frame_questions, identifier_questions, response_questions, member_questions}
use Rattle.plan.specs.Said.{Said, unless_refused}
use Rattle.plan.specs.Said.Said.{gives, refuses}
use Rattle.plan.specs.Stands.{Stands, in_order, in_conflict, place_in, among}
use Rattle.plan.specs.Stands.Stands.{order, conflict}

-- the places are given from the last to the first, or the deletion filter finds the conflict
abbrev pub picked_order : Bank → Packing → Option (List ℕ)
picked_order m p = order_of (in_time m) (rows p) no_row

abbrev pub left_conflict : Bank → Packing → List ℕ
left_conflict m p = conflict_of (in_time m) (rows p) no_row

abbrev pub standing_after : Bank → Packing → Option (List ℕ) → Stands
standing_after m p (Some o) = order o
standing_after m p None = conflict (left_conflict m p)

-- the number of frames and of examinations, or the size of the conflict
abbrev pub order_answers : Bank → Packing → Option (List ℕ) → Said
order_answers m p (Some o) = gives (length (rows p) ∷ examinations_of (in_time m) (rows p) no_row ∷ [])
order_answers m p None = refuses (plan_told (NoOrder (length (left_conflict m p))))

abbrev pub order_says : Bank → Packing → Said
order_says m p = order_answers m p (picked_order m p)

-- what stands once a plan is ordered
abbrev pub ordered : Bank → Packing → Stands
ordered m p = standing_after m p (picked_order m p)

-- the frame of the signal that was found
abbrev pub frame_at : Packing → Option ℕ → ℕ
frame_at p None = 0
frame_at p (Some i) = (slice_index_or p.signals i no_entry).frame

abbrev pub frame_says : Packing → ℕ → Said
frame_says p name = unless_refused (frame_at p (place_of name 0 p.signals) ∷ []) (first_no (name_questions p name))

abbrev pub figures : Row → List ℕ
figures r = r.sender ∷ r.fill ∷ r.period ∷ r.deadline ∷ r.set ∷ []

abbrev pub record_says : Packing → ℕ → Said
record_says p n = unless_refused (figures (row p n)) (first_no (frame_questions p n))

-- the identifier of the frame at a place, the first being 0
abbrev pub identifier_at : ℕ → ℕ
identifier_at place = 8 * (place + 1)

abbrev pub identifier_says : Packing → Stands → ℕ → Said
identifier_says p st n = unless_refused (identifier_at (place_in n (in_order st)) ∷ []) (first_no (identifier_questions p st n))

-- a response time; a domain that has none to give does not carry the frame
abbrev pub heard : Option PlanFault → Option ℕ → Said
heard (Some f) o = refuses (plan_told f)
heard None None = refuses (plan_told NotCarried)
heard None (Some t) = gives (t ∷ [])

-- with the frames in order of priority, at its place
abbrev pub response_of : Bank → Packing → List ℕ → ℕ → ℕ → Option ℕ
response_of m p o n k = response_at m.response k (map (row p) o) (place_in n o)

abbrev pub response_says : Bank → Packing → Stands → ℕ → ℕ → Said
response_says m p st n k = heard (first_no (response_questions p st n k)) (response_of m p (in_order st) n k)

abbrev pub bit : Bool → ℕ
bit true = 1
bit false = 0

abbrev pub member_says : Packing → Stands → ℕ → Said
member_says p st n = unless_refused (bit (among n (in_conflict st)) ∷ []) (first_no (member_questions p st n))
