use Rattle.std.proofs.Common.{sym, subst, arith}
use Rattle.std.proofs.lemmas.Result.{err_from_is_err_and}
use Rattle.packing.specs.Holds.{held}
use Rattle.packing.proofs.Sounds.{to_sound}
use Rattle.plan.specs.Questions.{Asked}
use Rattle.plan.proofs.Asking.{no_figure, no_name, no_room, all_asked}
use Rattle.plan.proofs.questions.ask.Goals as goal

pub returns-in_err-check_figures : goal.returns-in_err-check_figures
returns-in_err-check_figures g c =
    let p = err_from_is_err_and c.from_residual.result c.from_residual.ensures.1 in
    rw (p.1, p.2) (no_figure _ _ (held c.args.tables.now) c.args.signal.now _ _ c.count.ensures c.in_err-check_figures.ensures.is)

pub returns-then-is_some : goal.returns-then-is_some
returns-then-is_some g c =
    no_name _ _ (held c.args.tables.now) c.args.signal.now _ c.count.ensures c.in_ok-check_figures.ensures.is _ c.entries.ensures.is _ c.find.ensures (sym c.if-is_some.ensures)

pub returns-then-signal_count-ge-MAX_SIGNALS : goal.returns-then-signal_count-ge-MAX_SIGNALS
returns-then-signal_count-ge-MAX_SIGNALS g c =
    no_room _ _ (held c.args.tables.now) c.args.signal.now _ c.count.ensures c.in_ok-check_figures.ensures.is _ c.entries.ensures.is _ c.find.ensures (sym c.if-is_some.ensures) (omega (arith, c.signal_count.ensures))

pub returns : goal.returns
returns g c =
    let p = held c.args.tables.now in
    let s = c.args.signal.now in
    subst (Asked _ _ p s) (sym c.ok_or.ensures.value)
    (all_asked _ _ p s _ c.count.ensures c.in_ok-check_figures.ensures.is _ c.entries.ensures.is _ c.find.ensures (sym c.if-is_some.ensures) (to_sound _ c.args.tables.now.ok) c.in_ok-check_figures.ensures.lawful (omega (arith, c.signal_count.ensures)) c.choose.result (sym c.choose.ensures))
