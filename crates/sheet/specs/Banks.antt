-- What the bank of a sheet means to a plan. Assumes nothing.
use Rattle.std.specs.Prelude.{ℕ, List, None, Option}
use Rattle.streams.specs.declared.stream.Stream.{Stream}
use Rattle.domains.specs.Pairs.{pair_count, by_number}
use Rattle.kinds.specs.Rows.{alone_cost, alone_response}
use Rattle.plan.specs.Banks.{Bank, bank_of}
use Rattle.bus.specs.declared.bus.Bus.{Bus}
use Rattle.bus.specs.Buses.{bus_price, bus_time}
use Rattle.gateway.specs.declared.gateway.Gateway.{Gateway}
use Rattle.gateway.specs.Gateways.{gateway_price, relayed}
use Rattle.radio.specs.declared.radio.Radio.{Radio}
use Rattle.radio.specs.Radios.{radio_price, radio_time}
use Rattle.sheet.specs.Heads.{Four}

-- a bank of one domain
abbrev pub one_domain : {D : Type 0} → (D → ℕ → ℕ) → (D → Stream → List Stream → List Stream → Option ℕ) → D → Bank
one_domain price time d = bank_of 1 (alone_cost price d) (alone_response price time d)

abbrev pub bus_bank : Bus → Bank
bus_bank b = one_domain bus_price (λ b. bus_time b.arbitration) b

abbrev pub gateway_bank : Gateway → Bank
gateway_bank g = one_domain gateway_price (λ g. relayed) g

abbrev pub radio_bank : Radio → Bank
radio_bank r = one_domain radio_price (λ r. radio_time) r

-- two banks side by side: the first numbers are the first's, and there are at most four
abbrev pub beside : Bank → Bank → Bank
beside a b =
    bank_of (pair_count a.domains b.domains) (λ k p. by_number a.domains k (λ j. a.cost j p) (λ j. b.cost j p) 0)
    (λ k f above below. by_number a.domains k (λ j. a.response j f above below) (λ j. b.response j f above below) None)

-- domains 0 and 1 are the buses, 2 is the gateway and 3 the radio link
abbrev pub sheet_bank : Four → Bank
sheet_bank d = beside (beside (bus_bank d.first.first) (bus_bank d.first.second)) (beside (gateway_bank d.second.first) (radio_bank d.second.second))
