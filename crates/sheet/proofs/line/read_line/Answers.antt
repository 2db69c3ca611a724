use Rattle.std.proofs.Common.{subst, sym}
use Rattle.sheet.specs.Forms.{form}
use Rattle.sheet.specs.Lines.{OutOfForm}
use Rattle.sheet.specs.Lines.OutOfForm.{first, later}
use Rattle.sheet.proofs.line.read_line.Goals as goal

pub returns-in_default : goal.returns-in_default
returns-in_default g c = first c.in_default.ensures

pub returns-in-Err : goal.returns-in-Err
returns-in-Err g c =
    subst (OutOfForm (form c.args.due c.args.widths.now) c.args.line c.args.text.now) (sym c.into.ensures) (later c.in-Some.rest.now c.in-Err.fault c.in-Some.ensures c.in-Err.ensures)
