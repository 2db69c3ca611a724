use Rattle.std.proofs.Common.{◌^◌, ◌<◌, ◌≤◌, arith, pow_mono, ◌∙◌, subst}
use Rattle.std.proofs.lemmas.Nat.{one_shl}
use Rattle.std.proofs.lemmas.Result.{err_from_is_err_and}
use Rattle.std.proofs.lemmas.Bool.Decides.{nat_tests}
use Rattle.frames.specs.declared.row.Row.{Row}
use Rattle.frames.specs.Limits.{Lawful}
use Rattle.frames.specs.Records.{Breaks}
use Rattle.frames.proofs.Lawfuls.{lawful_frame}
use Rattle.signals.specs.Rows.{alone}
use Rattle.plan.proofs.Figures.{breaks_first}
use Rattle.plan.proofs.questions.check_figures.Goals as goal

pub returns-in_err-try_from-clause-is : goal.returns-in_err-try_from-clause-is
returns-in_err-try_from-clause-is c =
    let p = err_from_is_err_and c.from_residual.result c.from_residual.ensures.1 in
    let most : 2 ^ c.args.domains ≤ 16 = pow_mono c.requires in
    let broken : Breaks (alone c.args.signal.now) c.in_err-try_from.field-0.0 = subst (λ (r : Row). Breaks r c.in_err-try_from.field-0.0) c.from.ensures c.in_err-try_from.ensures in
    rw (p.1, p.2) (breaks_first c.args.domains c.args.signal.now most (omega arith) _ broken)

pub returns : goal.returns
returns c =
    let below : c.args.signal.now.set < 2 ^ c.args.domains = omega (arith, one_shl c.args.domains 64 (omega arith)) in
    let most : 2 ^ c.args.domains ≤ 16 = pow_mono c.requires in
    let l : Lawful (alone c.args.signal.now) = subst Lawful (c.in_ok-try_from.ensures ∙ c.from.ensures) (lawful_frame c.in_ok-try_from.field-0) in
    record {
      is = grind (arith, nat_tests, l);
      lawful = record { from = omega arith; sized = l.filled; paced = l.paced; timely = l.timely; named = l.carried };
    }
