use Rattle.std.proofs.Common.{[], sym, refl, ap, ◌∙◌, subst}
use Rattle.std.proofs.lemmas.Result.{err_from_is_err_and}
use Rattle.weights.proofs.Weighing.{cost_grows}
use Rattle.packing.specs.Holds.{held}
use Rattle.packing.specs.Laws.{Lightest}
use Rattle.packing.specs.Packings.{withdrawn}
use Rattle.packing.proofs.Sounds.{to_sound}
use Rattle.packing.proofs.Undoing.{undone}
use Rattle.packing.proofs.Weighty.{lightest}
use Rattle.packing.proofs.Words.{held_packed}
use Rattle.plan.specs.Said.{unless_refused}
use Rattle.plan.proofs.Asking.{enter_refused, enter_done, frames_full}
use Rattle.plan.proofs.draft.Draft.enter.Goals as goal

pub returns-in_err-choice : goal.returns-in_err-choice
returns-in_err-choice g c =
    let p = held c.args.self.now.tables in
    let x = c.args.self.now.bank in
    let e = err_from_is_err_and c.from_residual.result c.from_residual.ensures.1 in
    record {
      says = rw (e.1, e.2) (sym (ap (unless_refused []) c.in_err-choice.ensures));
      holds = sym (enter_refused _ _ p c.args.signal _ c.in_err-choice.ensures);
      bank = refl;
      packed = held_packed c.args.self.now.tables;
      lightest = rw e.1 tt;
      full = λ r. frames_full (g.B.Domain.count x) (g.B.Domain.cost x) p c.args.signal (cost_grows _ _ _ g.met.B.Domain.duties x) (to_sound p c.args.self.now.tables.ok) (ap (unless_refused []) c.in_err-choice.ensures ∙ sym (rw (e.1, e.2) refl) ∙ r);
      undone = rw e.1 tt;
    }

pub returns : goal.returns
returns g c =
    let x = c.args.self.now.bank in
    let up = cost_grows _ _ _ g.met.B.Domain.duties x in
    let p = held c.args.self.now.tables in
    let s = c.args.signal in
    let h = to_sound p c.args.self.now.tables.ok in
    let asked = c.in_ok-choice.ensures in
    record {
      says = sym (ap (unless_refused []) asked.0);
      holds = c.place.ensures ∙ sym (enter_done _ _ p s _ asked.0 asked.1);
      bank = refl;
      packed = held_packed c.place.new.self;
      lightest = subst (Lightest _ p s) (sym c.place.ensures) (lightest (g.B.Domain.cost x) up p s h _ asked.1 asked.2);
      full = λ r. frames_full (g.B.Domain.count x) (g.B.Domain.cost x) p s up h (ap (unless_refused []) asked.0 ∙ r);
      undone = ap (λ q. withdrawn q s.name) c.place.ensures ∙ undone p s _ h asked.2;
    }
