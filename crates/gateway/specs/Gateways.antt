-- What a gateway processor costs and answers. Assumes nothing.
use Rattle.std.specs.Prelude.{◌≡◌, ℕ, ◌+◌, ◌*◌, List, [], ◌∷◌, Option}
use Rattle.shelf.specs.Smallest.{Smallest, solution}
use Rattle.streams.specs.declared.stream.Stream.{Stream}
use Rattle.streams.specs.Demands.{demand, horizon}
use Rattle.gateway.specs.declared.gateway.Gateway.{Gateway}

abbrev pub figures : Gateway → List ℕ
figures g = g.fixed ∷ g.byte ∷ []

abbrev pub gateway_price : Gateway → ℕ → ℕ
gateway_price g p = g.fixed + g.byte * p

-- the processor has served w: the frame itself, and all that those above it have released in w
abbrev pub served : Stream → List Stream → ℕ → ℕ
served s above w = s.cost + demand above w

-- the smallest w from 1 to the horizon with w = C + the sum over the streams above of ⌈w / T⌉ × C
unfoldable pub relayed : Stream → List Stream → List Stream → Option ℕ
relayed s above below = solution (served s above) 1 horizon

-- in words: it is the smallest solution of the equation, or there is none up to the horizon
abbrev pub Relayed : Stream → List Stream → Option ℕ → Type 0
Relayed s above o = Smallest (λ w. w ≡ served s above w) 1 horizon o
