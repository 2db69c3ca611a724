-- A sheet that is written out from four domains and from signals is read back as those. Assumes nothing.
use Rattle.std.proofs.Common.{◌≤◌, List, length, refl}
use Rattle.std.specs.List.{AllByRecursion}
use Rattle.domains.specs.declared.pair.Pair.{Pair}
use Rattle.domains.specs.Pairing.{pair_duties}
use Rattle.kinds.proofs.Singles.{kind_duties}
use Rattle.bus.specs.declared.bus.Bus.{Bus}
use Rattle.bus.specs.Wiring.{bus_kept}
use Rattle.gateway.specs.declared.gateway.Gateway.{Gateway}
use Rattle.gateway.specs.Relays.{gateway_kept}
use Rattle.radio.specs.declared.radio.Radio.{Radio}
use Rattle.radio.specs.Rounds.{radio_kept}
use Rattle.signals.specs.declared.signal.Signal.{Signal}
use Rattle.packing.specs.Packings.{Packing}
use Rattle.sheet.specs.Banks.{sheet_bank}
use Rattle.sheet.specs.Comes.{Lawful, empty}
use Rattle.sheet.specs.Heads.{Four, bank_lines}
use Rattle.sheet.specs.Plans.{PlanOf}
use Rattle.sheet.specs.Signals.{Named, Taken, signal_lines}
use Rattle.sheet.proofs.Planning.{plan_by}

-- the bank of a sheet keeps the duties
sheet_plan : (d : Four) (ss : List Signal) (p : Packing) → Taken (sheet_bank d) empty ss p → PlanOf (sheet_bank d) ss p
sheet_plan d ss p t =
    let buses = pair_duties {P = Pair Bus Bus} (λ p. p.first) (λ p. p.second) (kind_duties bus_kept) (kind_duties bus_kept) in
    let links = pair_duties {P = Pair Gateway Radio} (λ p. p.first) (λ p. p.second) (kind_duties gateway_kept) (kind_duties radio_kept) in
    plan_by (pair_duties {P = Four} (λ p. p.first) (λ p. p.second) buses links) d ss p t

pub written_back : (d : Four) (ss : List Signal) (p : Packing) → AllByRecursion Named ss
    → length (bank_lines d (signal_lines ss)) ≤ 16384 → Taken (sheet_bank d) empty ss p
    → Lawful (bank_lines d (signal_lines ss)) d ss p
written_back d ss p named short t = record {
  short = short;
  lines = signal_lines ss;
  is = refl;
  entered = (named, refl, t);
  plan = sheet_plan d ss p t;
}
