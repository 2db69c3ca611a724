-- The lines of a sheet after its bank, and the whole. Assumes nothing.
use Rattle.std.proofs.Common.{◌≡◌, ℕ, ◌≤◌, List, ◌++◌, Ok, Err, Result, length, arith, length-append}
use Rattle.plan.specs.declared.closed.order.Counted.{Counted}
use Rattle.plan.specs.declared.fault.PlanFault.{PlanFault}
use Rattle.listing.specs.declared.text.Listing.{Listing}
use Rattle.sheet.specs.declared.fault.SheetFault.{SheetFault}
use Rattle.sheet.specs.Banks.{sheet_bank}
use Rattle.sheet.specs.Comes.{LinesCome, SheetComes}
use Rattle.sheet.specs.Comes.Faulty.{body}
use Rattle.sheet.specs.Heads.{Four, bank_lines, bus_line, gateway_line, radio_line}

pub bank_short : (d : Four) (rest : List ℕ) → length rest ≤ length (bank_lines d rest)
bank_short d rest =
    let r = length-append (radio_line d.second.second) rest in
    let g = length-append (gateway_line d.second.first) (radio_line d.second.second ++ rest) in
    let b = length-append (bus_line d.first.second) (gateway_line d.second.first ++ (radio_line d.second.second ++ rest)) in
    let a = length-append (bus_line d.first.first) (bus_line d.first.second ++ (gateway_line d.second.first ++ (radio_line d.second.second ++ rest))) in
    omega arith

pub come : (s : List ℕ) (d : Four) (rest : List ℕ) → length s ≤ 16384 → s ≡ bank_lines d rest
    → (r : Result (Listing × Result Counted PlanFault) SheetFault) → LinesCome (sheet_bank d) rest r → SheetComes s r
come s d rest short is (Ok given) h = (d, h.0, h.1, record { short = short; lines = rest; is = is; entered = h.2; plan = h.3 }, h.4)
come s d rest short is (Err e) h = body d rest h.0 short is h.1
