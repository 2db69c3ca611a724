-- The book of a plan: what each call does to it, and what it replies. Assumes nothing.
use Rattle.std.specs.Prelude.{Bool, true, false, List, [], ◌∷◌, length}
use Rattle.packing.specs.Packings.{Packing, packed, packing_weight, withdrawn}
use Rattle.plan.specs.Banks.{Bank}
use Rattle.plan.specs.Closes.{ordered, order_says, frame_says, record_says, identifier_says, response_says, member_says}
use Rattle.plan.specs.Drafts.{entered, enter_says, withdraw_says}
use Rattle.plan.specs.Stands.{Stands}
use Rattle.plan.specs.Stands.Stands.{nothing}
use Rattle.runs.specs.declared.call.Call.{Call}
use Rattle.runs.specs.declared.call.Call.TheVariants.{Enter, Withdraw, Close, Reopen, Order, FrameOf, Record, Identifier, Response, Member, SignalCount, FrameCount, Weight}
use Rattle.runs.specs.Replies.{Reply, of_change, of_move, of_order, of_frame, of_record, of_identifier, of_response, of_member, of_count, of_weight}
use Rattle.runs.specs.Replies.Reply.{not_allowed}

-- the signals with their frames, the state, and what stands
pub record Book : Type 0 where
  pub packing : Packing
  pub closed : Bool
  pub stands : Stands

pub record Turn : Type 0 where
  pub after : Book
  pub reply : Reply

abbrev pub draft : Packing → Book
draft p = record { packing = p; closed = false; stands = nothing }

abbrev pub shut : Packing → Stands → Book
shut p s = record { packing = p; closed = true; stands = s }

abbrev pub turn : Book → Reply → Turn
turn b r = record { after = b; reply = r }

-- a plan just created
abbrev pub new : Book
new = draft (packed [] 0)

abbrev pub on_draft : Bank → Packing → Call → Turn
on_draft m p (Enter s) = turn (draft (entered m.domains m.cost p s)) (of_change (enter_says m.domains m.cost p s))
on_draft m p (Withdraw name) = turn (draft (withdrawn p name)) (of_change (withdraw_says p name))
on_draft m p Close = turn (shut p nothing) of_move
on_draft m p Reopen = turn (draft p) not_allowed
on_draft m p Order = turn (draft p) not_allowed
on_draft m p (FrameOf name) = turn (draft p) not_allowed
on_draft m p (Record n) = turn (draft p) not_allowed
on_draft m p (Identifier n) = turn (draft p) not_allowed
on_draft m p (Response n k) = turn (draft p) not_allowed
on_draft m p (Member n) = turn (draft p) not_allowed
on_draft m p SignalCount = turn (draft p) (of_count (length p.signals))
on_draft m p FrameCount = turn (draft p) (of_count p.frames)
on_draft m p Weight = turn (draft p) (of_weight (packing_weight m.cost p))

abbrev pub on_closed : Bank → Packing → Stands → Call → Turn
on_closed m p s (Enter x) = turn (shut p s) not_allowed
on_closed m p s (Withdraw name) = turn (shut p s) not_allowed
on_closed m p s Close = turn (shut p s) not_allowed
on_closed m p s Reopen = turn (draft p) of_move
on_closed m p s Order = turn (shut p (ordered m p)) (of_order (order_says m p))
on_closed m p s (FrameOf name) = turn (shut p s) (of_frame (frame_says p name))
on_closed m p s (Record n) = turn (shut p s) (of_record (record_says p n))
on_closed m p s (Identifier n) = turn (shut p s) (of_identifier (identifier_says p s n))
on_closed m p s (Response n k) = turn (shut p s) (of_response (response_says m p s n k))
on_closed m p s (Member n) = turn (shut p s) (of_member (member_says p s n))
on_closed m p s SignalCount = turn (shut p s) (of_count (length p.signals))
on_closed m p s FrameCount = turn (shut p s) (of_count p.frames)
on_closed m p s Weight = turn (shut p s) (of_weight (packing_weight m.cost p))

abbrev pub on : Bank → Packing → Stands → Bool → Call → Turn
on m p s true c = on_closed m p s c
on m p s false c = on_draft m p c

abbrev pub step : Bank → Book → Call → Turn
step m b c = on m b.packing b.stands b.closed c

-- the book after the calls, and what each of them replies
abbrev pub run : Bank → Book → List Call → Book
run m b [] = b
run m b (c ∷ cs) = run m (step m b c).after cs

abbrev pub replies : Bank → Book → List Call → List Reply
replies m b [] = []
replies m b (c ∷ cs) = (step m b c).reply ∷ replies m (step m b c).after cs
