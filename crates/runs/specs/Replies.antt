-- What a call replies, as users see it. Assumes nothing.
use Rattle.std.specs.Prelude.{ℕ, [], ◌∷◌}
use Rattle.plan.specs.Closes.{figures, bit}
use Rattle.plan.specs.Said as S
use Rattle.plan.specs.Said.{Said, done}
use Rattle.plan.specs.Said.Said.{gives}
use Rattle.runs.specs.declared.call.Answer.{Answer}
use Rattle.runs.specs.declared.call.Answer.TheVariants.{Changed, Moved, Ordered, Frame, Record, Identifier, Response, Member, Count, Weight, NotAllowed}

pub data Reply : Type 0 where
  -- the number of the kind of answer, with what the call says
  says : ℕ → Said → Reply
  -- the state of the plan has no such call
  not_allowed : Reply

-- the kinds of answer
abbrev pub of_change : Said → Reply
of_change s = says 1 s

abbrev pub of_move : Reply
of_move = says 2 (gives [])

abbrev pub of_order : Said → Reply
of_order s = says 3 s

abbrev pub of_frame : Said → Reply
of_frame s = says 4 s

abbrev pub of_record : Said → Reply
of_record s = says 5 s

abbrev pub of_identifier : Said → Reply
of_identifier s = says 6 s

abbrev pub of_response : Said → Reply
of_response s = says 7 s

abbrev pub of_member : Said → Reply
of_member s = says 8 s

abbrev pub of_count : ℕ → Reply
of_count n = says 9 (gives (n ∷ []))

abbrev pub of_weight : ℕ → Reply
of_weight w = says 10 (gives (w ∷ []))

-- each answer by its kind, with its values, or with the number and the values of its refusal
abbrev pub told : Answer → Reply
told (Changed r) = of_change (S.told done r)
told Moved = of_move
told (Ordered r) = of_order (S.told (λ c. c.frames ∷ c.examinations ∷ []) r)
told (Frame r) = of_frame (S.told (λ n. n ∷ []) r)
told (Record r) = of_record (S.told figures r)
told (Identifier r) = of_identifier (S.told (λ i. i ∷ []) r)
told (Response r) = of_response (S.told (λ t. t ∷ []) r)
told (Member r) = of_member (S.told (λ b. bit b ∷ []) r)
told (Count n) = of_count n
told (Weight w) = of_weight w
told NotAllowed = not_allowed
