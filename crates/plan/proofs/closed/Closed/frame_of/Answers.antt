use Rattle.std.proofs.Common.{◌<◌, [], ◌∷◌, length, get_or, ap, ◌∙◌, arith, rules}
use Rattle.std.proofs.lemmas.Result.{err_from_is_err_and}
use Rattle.plan.specs.Said.Said.{gives}
use Rattle.signals.specs.Names.{no_entry}
use Rattle.packing.specs.Holds.{held}
use Rattle.plan.proofs.Readings.{frame_found, frame_unknown}
use Rattle.plan.proofs.closed.Closed.frame_of.Goals as goal

pub returns-in_err-i : goal.returns-in_err-i
returns-in_err-i g c =
    let p = err_from_is_err_and c.from_residual.result c.from_residual.ensures.1 in
    let none = c.in_err-i.ensures in
    rw (p.1, p.2, none.0) (frame_unknown (held c.args.self.now.tables) c.args.name none.1)

pub bounds-entries-i : goal.bounds-entries-i
bounds-entries-i g c = omega (arith, c.in_ok-i.ensures.1, ap length c.entries.ensures.is)

pub offset_bounds-entries-i : goal.offset_bounds-entries-i
offset_bounds-entries-i g c =
    let w : c.in_ok-i.i < 256 = omega (arith, c.in_ok-i.ensures.1, c.entries.ensures.packed.few) in
    search rules

pub returns : goal.returns
returns g c =
    ap (λ es. gives ((get_or es c.in_ok-i.i no_entry).frame ∷ [])) c.entries.ensures.is ∙ frame_found (held c.args.self.now.tables) c.args.name c.in_ok-i.i c.in_ok-i.ensures.0
