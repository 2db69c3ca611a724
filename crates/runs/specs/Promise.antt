-- What a plan promises over any list of calls. Assumes nothing.
use Rattle.std.specs.Prelude.{◌≡◌, ℕ, ◌<◌, ◌≤◌, true, List, [], ◌∷◌, ◌++◌, map, length, take, drop, Ok, Err, Result, slice_index_or}
use Rattle.domains.specs.Faults.{Refusal}
use Rattle.signals.specs.declared.signal.Signal.{Signal}
use Rattle.shelf.specs.Picks.{Among}
use Rattle.packing.specs.Laws.{Carries, Placeable, Lightest, WellPacked}
use Rattle.packing.specs.Packings.{rows}
use Rattle.plan.specs.declared.fault.PlanFault.TheVariants.{FramesFull}
use Rattle.plan.specs.Banks.{Bank}
use Rattle.plan.specs.Faults.{plan_told}
use Rattle.plan.specs.Said.Said.{gives, refuses}
use Rattle.plan.specs.Stands.Stands.{order}
use Rattle.plan.specs.Subject.{Iff, HasOrder, Upheld}
use Rattle.runs.specs.declared.call.Answer.{Answer}
use Rattle.runs.specs.declared.call.Call.{Call}
use Rattle.runs.specs.declared.call.Call.TheVariants.{Enter, Order}
use Rattle.runs.specs.declared.state.Plan.{Plan}
use Rattle.runs.specs.Books.{Book, new, run, replies}
use Rattle.runs.specs.Holds.{plan_bank, plan_book}
use Rattle.runs.specs.Lives.{lives, Rides, Reaches}
use Rattle.runs.specs.Replies.{Reply, told, of_change, of_order}
use Rattle.runs.specs.Replies.Reply.{not_allowed}

-- the reply of order is a refusal with this number
abbrev pub Refuses : ℕ → Reply → Type 0
Refuses n r = (f : Refusal) × (r ≡ of_order (refuses f)) × (f.number ≡ n)

-- at one moment, after these calls with these replies
pub record Moment (m : Bank) (calls : List Call) (said : List Reply) (b : Book) : Type 0 where
  -- frames are what their signals give, and records
  pub packed : WellPacked b.packing
  -- the order or the conflict that stands is right
  pub stands : Upheld m b.packing b.stands
  -- each signal entered and not since withdrawn rides in exactly one frame, and nothing else rides
  pub rides : (s : Signal) → Among s (lives [] calls said) → Rides b.packing s
  pub only : (n : ℕ) (s : Signal) → Carries b.packing n s → Among s (lives [] calls said)
  -- while an order stands, each such signal reaches every domain that it names within its own deadline
  pub reaches : (o : List ℕ) → b.stands ≡ order o → (s : Signal) → Among s (lives [] calls said) → Reaches m b.packing o s

pub record Promise (m : Bank) (calls : List Call) (plan : Book) (said : List Reply) : Type 0 where
  -- the plan and each reply are those of the book
  pub plan_is : plan ≡ run m new calls
  pub replies_are : said ≡ replies m new calls
  -- an enter that is not refused takes a frame where the plan's weight grows least, as the tie rules say
  pub lightest : (before after : List Call) (s : Signal) → calls ≡ before ++ (Enter s ∷ after) → slice_index_or said (length before) not_allowed ≡ of_change (gives [])
      → Lightest m.cost (run m new before).packing s (run m new (before ++ (Enter s ∷ []))).packing
  -- where an enter is refused for want of a frame, with 9, no frame may take the signal
  pub full : (before after : List Call) (s : Signal) → calls ≡ before ++ (Enter s ∷ after) → slice_index_or said (length before) not_allowed ≡ of_change (refuses (plan_told FramesFull))
      → (n : ℕ) → Placeable (run m new before).packing s n → ⊥
  -- order refuses, with 11, exactly when no order of the closed plan's frames meets every deadline in every domain that
  -- carries them
  pub refused : (before after : List Call) → calls ≡ before ++ (Order ∷ after) → (run m new before).closed ≡ true
      → Iff (Refuses 11 (slice_index_or said (length before) not_allowed)) (HasOrder m (rows (run m new before).packing) → ⊥)
  -- and after every call of the list
  pub moments : (before after : List Call) → calls ≡ before ++ after → Moment m before (take (length before) said) (run m new before)

-- what a run comes to: the promise, with the answers past the calls as they were; or, where there is not room for all
-- answers, nothing
abbrev pub Ran : {B : Type 0} → Bank → B → List Call → List Answer → List Answer → Result (Plan B) B → Type 0
Ran m bank calls entry exit (Ok plan) =
    (length calls ≤ length entry) × Promise m calls (plan_book plan) (map told (take (length calls) exit)) × (drop (length calls) exit ≡ drop (length calls) entry) × (plan_bank plan ≡ bank)
Ran m bank calls entry exit (Err back) = (length entry < length calls) × (back ≡ bank) × (exit ≡ entry)
