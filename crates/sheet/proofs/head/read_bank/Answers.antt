use Rattle.std.proofs.lemmas.Result.{err_from_is_err_and}
use Rattle.sheet.specs.Heads.FromLine.{here, later}
use Rattle.sheet.proofs.head.read_bank.Goals as goal

pub returns-in_err-first : goal.returns-in_err-first
returns-in_err-first c =
    let p = err_from_is_err_and c.from_residual.result c.from_residual.ensures.1 in
    rw (p.1, p.2) (here c.in_err-first.ensures)

pub returns-in_err-second : goal.returns-in_err-second
returns-in_err-second c =
    let p = err_from_is_err_and c.from_residual-in_err-second.result c.from_residual-in_err-second.ensures.1 in
    rw (p.1, p.2) (later c.in_ok-first.first c.in_ok-first.text.now c.in_ok-first.ensures (here c.in_err-second.ensures))

pub returns-in_err-gateway : goal.returns-in_err-gateway
returns-in_err-gateway c =
    let p = err_from_is_err_and c.from_residual-in_err-gateway.result c.from_residual-in_err-gateway.ensures.1 in
    rw (p.1, p.2) (later c.in_ok-first.first c.in_ok-first.text.now c.in_ok-first.ensures (later c.in_ok-second.second c.in_ok-second.text.now c.in_ok-second.ensures (here c.in_err-gateway.ensures)))

pub returns-in_err-radio : goal.returns-in_err-radio
returns-in_err-radio c =
    let p = err_from_is_err_and c.from_residual-in_err-radio.result c.from_residual-in_err-radio.ensures.1 in
    rw (p.1, p.2) (later c.in_ok-first.first c.in_ok-first.text.now c.in_ok-first.ensures (later c.in_ok-second.second c.in_ok-second.text.now c.in_ok-second.ensures
    (later c.in_ok-gateway.gateway c.in_ok-gateway.text.now c.in_ok-gateway.ensures (here c.in_err-radio.ensures))))
