use Rattle.std.proofs.Common.{subst}
use Rattle.plan.specs.Closes.{ordered}
use Rattle.listing.specs.Tells.{Told}
use Rattle.sheet.specs.Banks.{sheet_bank}
use Rattle.sheet.specs.Runs.Comes.{planned, faulty}
use Rattle.sheet.proofs.run.judge.Goals as goal

pub returns-in-Ok : goal.returns-in-Ok
returns-in-Ok c =
    let h = c.in-Ok.ensures in
    let tells = subst (Told (sheet_bank h.0) h.2 (ordered (sheet_bank h.0) h.2)) h.4.0 h.4.1 in
    rw (c.of_order.ensures, h.4.0) (planned h.0 h.1 h.2 c.in-Ok.answer h.3 tells h.4.2)

pub returns-in-Err : goal.returns-in-Err
returns-in-Err c = rw (c.list_fault-listing.ensures, c.number.ensures) (faulty c.in-Err.ensures)
