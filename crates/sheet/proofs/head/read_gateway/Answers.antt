use Rattle.std.proofs.Common.{rules, ap}
use Rattle.std.proofs.lemmas.Result.{err_from_is_err_and}
use Rattle.sheet.specs.Faults.{of_domain}
use Rattle.sheet.specs.Lines.AtFault.{form, asked}
use Rattle.sheet.proofs.head.read_gateway.Goals as goal

pub returns-in_err-fixed : goal.returns-in_err-fixed
returns-in_err-fixed c = search (rules, form)

pub returns-in_err-on_line : goal.returns-in_err-on_line
returns-in_err-on_line c =
    let p = err_from_is_err_and c.from_residual-in_err-on_line.result c.from_residual-in_err-on_line.ensures.1 in
    let e = c.in_err-on_line.field-0.0.fault in
    let made = rw (c.in_err-on_line.ensures.1, c.from.ensures, c.from-2.ensures) at c.new-made.ensures in
    rw (p.1, p.2) (asked _ _ c.in_ok-fixed.ensures.0 c.in_ok-fixed.ensures.1 (e, ap (λ n. of_domain n e) c.in_err-on_line.ensures.0, made))
