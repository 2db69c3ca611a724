-- What a radio link costs and answers. Assumes nothing.
use Rattle.std.specs.Prelude.{ℕ, ◌+◌, ◌*◌, cond, List, [], ◌∷◌, Some, None, Option, nat_le}
use Rattle.shelf.specs.Folds.{least}
use Rattle.streams.specs.declared.stream.Stream.{Stream}
use Rattle.streams.specs.Demands.{total}
use Rattle.radio.specs.declared.radio.Radio.{Radio}

abbrev pub figures : Radio → List ℕ
figures r = r.byte ∷ []

-- a payload travels with six bytes of its own
abbrev pub radio_price : Radio → ℕ → ℕ
radio_price r p = r.byte * (p + 6)

-- one round: every frame once
abbrev pub round : Stream → List Stream → List Stream → ℕ
round s above below = s.cost + total above + total below

-- the smallest period among them
abbrev pub shortest : Stream → List Stream → List Stream → ℕ
shortest s above below = least (λ x. x.period) (least (λ x. x.period) s.period above) below

-- a frame waits for a whole round; none where a round exceeds the smallest period
abbrev pub radio_time : Stream → List Stream → List Stream → Option ℕ
radio_time s above below = cond (nat_le (round s above below) (shortest s above below)) (Some (round s above below)) None
