use Rattle.std.proofs.Common.{[], sym, refl, ap, ◌∙◌}
use Rattle.std.proofs.lemmas.Result.{err_from_is_err_and}
use Rattle.packing.specs.Holds.{held}
use Rattle.packing.proofs.Words.{held_packed}
use Rattle.plan.specs.Said.{unless_refused}
use Rattle.plan.proofs.Asking.{unknown, known, withdrawn_by}
use Rattle.plan.proofs.draft.Draft.withdraw.Goals as goal

pub returns-in_err-i : goal.returns-in_err-i
returns-in_err-i g c =
    let p = held c.args.self.now.tables in
    let r = err_from_is_err_and c.from_residual.result c.from_residual.ensures.1 in
    let none = c.in_err-i.ensures in
    record {
      says = rw (r.1, r.2, none.0) (sym (ap (unless_refused []) (unknown p c.args.name none.1)));
      holds = sym (withdrawn_by p c.args.name _ none.1);
      bank = refl;
      packed = held_packed c.args.self.now.tables;
    }

pub returns : goal.returns
returns g c =
    let p = held c.args.self.now.tables in
    let at = c.in_ok-i.ensures.0 in
    record {
      says = sym (ap (unless_refused []) (known p c.args.name _ at));
      holds = c.take_out.ensures ∙ sym (withdrawn_by p c.args.name _ at);
      bank = refl;
      packed = held_packed c.take_out.new.self;
    }
