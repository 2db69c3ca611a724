-- The first four lines of a sheet: two buses, the gateway and the radio link. Assumes nothing.
use Rattle.std.specs.Prelude.{◌≡◌, ℕ, List, [], ◌∷◌, ◌++◌, Some, Ok, Err, Result, slice_index_or}
use Rattle.std.specs.Borrow.{Bor}
use Rattle.domains.specs.declared.fault.DomainFault.{DomainFault}
use Rattle.domains.specs.declared.pair.Pair.{Pair}
use Rattle.domains.specs.Faults.{Limited, limited, first_outside, domain_told}
use Rattle.bus.specs.declared.bus.Bus.{Bus}
use Rattle.bus.specs.Buses as B
use Rattle.gateway.specs.declared.gateway.Gateway.{Gateway}
use Rattle.gateway.specs.Gateways as G
use Rattle.radio.specs.declared.radio.Radio.{Radio}
use Rattle.radio.specs.Radios as R
use Rattle.sheet.specs.declared.fault.SheetFault.{SheetFault}
use Rattle.sheet.specs.Faults.{of_domain}
use Rattle.sheet.specs.Forms.{Form, bus_form, gateway_form, radio_form, line}
use Rattle.sheet.specs.Lines.{AtFault}

-- the value of field i, counted from 0
abbrev pub field : List ℕ → ℕ → ℕ
field vs i = slice_index_or vs i 0

-- the limits of the figures that a line gives
abbrev pub bus_limits : List ℕ → List Limited
bus_limits vs = limited 1000 (field vs 0) 8000 ∷ limited 125 (field vs 1) (field vs 0) ∷ []

abbrev pub gateway_limits : List ℕ → List Limited
gateway_limits vs = limited 1000 (field vs 0) 100000 ∷ limited 0 (field vs 1) 1000 ∷ []

abbrev pub radio_limits : List ℕ → List Limited
radio_limits vs = limited 10000 (field vs 0) 200000 ∷ []

-- the domain of line n is refused: one of its figures is the first outside its limits
abbrev pub DomainRefuses : (List ℕ → List Limited) → ℕ → List ℕ → SheetFault → Type 0
DomainRefuses limits n vs e = (x : DomainFault) × (e ≡ of_domain n x) × (first_outside 1 (limits vs) ≡ Some (domain_told x))

-- line n and the domain that has its figures, with what follows; or why there is none
abbrev pub DomainRead : {D : Type 0} → Form → (D → List ℕ) → (List ℕ → List Limited) → ℕ → List ℕ → Result (D × Bor (List ℕ)) SheetFault → Type 0
DomainRead f figures limits n s (Ok read) = s ≡ line f (figures read.0) ++ read.1.now
DomainRead f figures limits n s (Err e) = AtFault f n (DomainRefuses limits n) s e

abbrev pub bus_line : Bus → List ℕ
bus_line b = line bus_form (B.figures b)

abbrev pub gateway_line : Gateway → List ℕ
gateway_line g = line gateway_form (G.figures g)

abbrev pub radio_line : Radio → List ℕ
radio_line r = line radio_form (R.figures r)

-- the bank of a sheet, and its first four lines
abbrev pub Four : Type 0
Four = Pair (Pair Bus Bus) (Pair Gateway Radio)

abbrev pub bank_lines : Four → List ℕ → List ℕ
bank_lines d rest = bus_line d.first.first ++ (bus_line d.first.second ++ (gateway_line d.second.first ++ (radio_line d.second.second ++ rest)))

-- a fault at line n or later: this line is at fault, or it gives a domain and what follows is
pub data FromLine {D : Type 0} (f : Form) (figures : D → List ℕ) (limits : List ℕ → List Limited) (n : ℕ) (Later : List ℕ → Type 0) (s : List ℕ) (e : SheetFault) : Type 0 where
  here : AtFault f n (DomainRefuses limits n) s e → FromLine f figures limits n Later s e
  later : (d : D) (rest : List ℕ) → s ≡ line f (figures d) ++ rest → Later rest → FromLine f figures limits n Later s e

-- one of the first four lines is at fault, and those before it are not
abbrev pub RadioFault : SheetFault → List ℕ → Type 0
RadioFault e s = FromLine radio_form R.figures radio_limits 4 (λ t. ⊥) s e

abbrev pub GatewayFault : SheetFault → List ℕ → Type 0
GatewayFault e s = FromLine gateway_form G.figures gateway_limits 3 (RadioFault e) s e

abbrev pub SecondBusFault : SheetFault → List ℕ → Type 0
SecondBusFault e s = FromLine bus_form B.figures bus_limits 2 (GatewayFault e) s e

abbrev pub HeadFault : SheetFault → List ℕ → Type 0
HeadFault e s = FromLine bus_form B.figures bus_limits 1 (SecondBusFault e) s e

abbrev pub BankRead : List ℕ → Result (Four × Bor (List ℕ)) SheetFault → Type 0
BankRead s (Ok read) = s ≡ bank_lines read.0 read.1.now
BankRead s (Err e) = HeadFault e s
