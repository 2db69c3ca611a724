use Rattle.std.proofs.Common.{◌≡◌, ◌≢◌, [], ◌++◌, length, refl, rules, sym, ap, ◌∙◌, length-append, append-nil}
use Rattle.std.proofs.lemmas.List.{nil_from_length}
use Rattle.std.proofs.lemmas.Result.{err_from_is_err_and}
use Rattle.sheet.specs.Signals.{signal_line, signal_lines}
use Rattle.sheet.specs.Faults.{of_plan}
use Rattle.sheet.specs.Lines.AtFault.{form, asked}
use Rattle.sheet.proofs.Entering.{refused_same, entered_none, entered_more, entered_low, entered_fault}
use Rattle.sheet.proofs.body.enter_all.Goals as goal

pub loop-rest-init : goal.loop-rest-init
loop-rest-init g c = (refl, entered_none _ _ _)

pub returns-in_err-signal-clause-bank : goal.returns-in_err-signal-clause-bank
returns-in_err-signal-clause-bank g c = c.loop-rest.invariant.0

pub returns-in_err-signal-clause-read : goal.returns-in_err-signal-clause-read
returns-in_err-signal-clause-read g c =
    let p = err_from_is_err_and c.from_residual.result c.from_residual.ensures.1 in
    let more : c.loop-rest.rest.now ≢ [] = search rules in
    rw (p.1, p.2) (entered_fault _ _ _ _ _ _ _ c.loop-rest.invariant.1 more (form c.in_err-signal.ensures))

pub returns-in_err-on_line-clause-bank : goal.returns-in_err-on_line-clause-bank
returns-in_err-on_line-clause-bank g c = c.enter.ensures.bank ∙ c.loop-rest.invariant.0

pub returns-in_err-on_line-clause-read : goal.returns-in_err-on_line-clause-read
returns-in_err-on_line-clause-read g c =
    let p = err_from_is_err_and c.from_residual-in_err-on_line.result c.from_residual-in_err-on_line.ensures.1 in
    let e = c.in_err-on_line.field-0.0.fault in
    let more : c.loop-rest.rest.now ≢ [] = search rules in
    let b = c.loop-rest.invariant.0 in
    let says = sym (rw (c.in_err-on_line.ensures.1, b) at c.enter.ensures.says) in
    let same = rw b at c.enter.ensures.holds ∙ refused_same _ _ _ _ _ says in
    let here = asked _ _ c.in_ok-signal.ensures.0 c.in_ok-signal.ensures.1 (c.in_ok-signal.signal, e, refl, ap (λ n. of_plan n e) c.in_err-on_line.ensures.0, says) in
    rw (p.1, p.2, same) (entered_fault _ _ _ _ _ _ _ c.loop-rest.invariant.1 more here)

pub overflow_add-line : goal.overflow_add-line
overflow_add-line g c = let l = entered_low _ _ _ _ _ _ c.loop-rest.invariant.1 in let r = c.requires in search rules

pub loop-rest-smaller : goal.loop-rest-smaller
loop-rest-smaller g c =
    let l = ap length c.in_ok-signal.ensures.1 ∙ length-append (signal_line c.in_ok-signal.signal) c.in_ok-signal.after.now in search rules

pub loop-rest-preserved : goal.loop-rest-preserved
loop-rest-preserved g c =
    let b = c.loop-rest.invariant.0 in
    let says = sym (rw (c.in_ok-on_line.ensures, b) at c.enter.ensures.says) in
    let holds = rw b at c.enter.ensures.holds in
    (c.enter.ensures.bank ∙ b, entered_more _ _ _ _ _ _ c.in_ok-signal.signal c.in_ok-signal.after.now _ c.loop-rest.invariant.1 c.in_ok-signal.ensures.0 c.in_ok-signal.ensures.1 says holds)

pub returns-clause-bank : goal.returns-clause-bank
returns-clause-bank g c = c.loop-rest.invariant.0

pub returns-clause-read : goal.returns-clause-read
returns-clause-read g c =
    let h = c.loop-rest.invariant.1 in
    let empty : length c.loop-rest.rest.now ≡ 0 = search rules in
    let none = nil_from_length c.loop-rest.rest.now empty in
    (h.before, h.named, h.is ∙ ap (λ t. signal_lines h.before ++ t) none ∙ append-nil (signal_lines h.before), h.taken)
