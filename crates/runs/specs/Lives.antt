-- Which signals a run leaves in the plan, where each rides, and when it arrives. Assumes nothing.
use Rattle.std.specs.Prelude.{◌≡◌, ℕ, ◌<◌, ◌≤◌, true, not, List, [], ◌∷◌, ◌++◌, filter, ◌==◌}
use Rattle.timing.specs.Carried.{in_set}
use Rattle.signals.specs.declared.signal.Signal.{Signal}
use Rattle.packing.specs.Laws.{Carries}
use Rattle.packing.specs.Packings.{Packing}
use Rattle.plan.specs.Banks.{Bank}
use Rattle.plan.specs.Said.Said.{gives, refuses}
use Rattle.plan.specs.Subject.{Heard}
use Rattle.runs.specs.declared.call.Call.{Call}
use Rattle.runs.specs.declared.call.Call.TheVariants.{Enter, Withdraw, Close, Reopen, Order, FrameOf, Record, Identifier, Response, Member, SignalCount, FrameCount, Weight}
use Rattle.runs.specs.Replies.{Reply}
use Rattle.runs.specs.Replies.Reply.{says, not_allowed}

-- an enter that is not refused puts its signal in, a withdraw that is not refused takes out the one of that name
abbrev pub after_call : List Signal → Call → Reply → List Signal
after_call ss (Enter s) (says k (gives vs)) = ss ++ (s ∷ [])
after_call ss (Enter s) (says k (refuses f)) = ss
after_call ss (Enter s) not_allowed = ss
after_call ss (Withdraw name) (says k (gives vs)) = filter (λ s. not (s.name == name)) ss
after_call ss (Withdraw name) (says k (refuses f)) = ss
after_call ss (Withdraw name) not_allowed = ss
after_call ss Close r = ss
after_call ss Reopen r = ss
after_call ss Order r = ss
after_call ss (FrameOf name) r = ss
after_call ss (Record n) r = ss
after_call ss (Identifier n) r = ss
after_call ss (Response n k) r = ss
after_call ss (Member n) r = ss
after_call ss SignalCount r = ss
after_call ss FrameCount r = ss
after_call ss Weight r = ss

-- the signals entered and not since withdrawn, by the calls and what they replied
abbrev pub lives : List Signal → List Call → List Reply → List Signal
lives ss [] rs = ss
lives ss (c ∷ cs) [] = ss
lives ss (c ∷ cs) (r ∷ rs) = lives (after_call ss c r) cs rs

-- the signal rides in exactly one frame, which there is
pub record Rides (p : Packing) (s : Signal) : Type 0 where
  pub frame : ℕ
  pub exists : frame < p.frames
  pub carried_by : Carries p frame s
  pub only : (n : ℕ) → Carries p n s → n ≡ frame

-- its frame has a place in the order, and in every domain that the signal names the response time that a planner hears
-- of the frame is within the signal's own deadline
pub record Reaches (m : Bank) (p : Packing) (o : List ℕ) (s : Signal) : Type 0 where
  pub frame : ℕ
  pub carried_by : Carries p frame s
  pub before : List ℕ
  pub behind : List ℕ
  pub placed : o ≡ before ++ (frame ∷ behind)
  pub hears : (k : ℕ) → k < 4 → in_set k s.set ≡ true → Heard m p o before frame behind k
  pub timely : (k : ℕ) (l : k < 4) (t : in_set k s.set ≡ true) → (hears k l t).time ≤ s.deadline
