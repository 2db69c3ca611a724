use Rattle.std.proofs.Common.{◌≤◌, ◌+◌, ◌*◌, ◌/◌, sym, refl, subst}
use Rattle.packing.specs.Holds.{held}
use Rattle.packing.proofs.Sounds.{to_sound}
use Rattle.timing.proofs.Combining.{everywhere_laws}
use Rattle.plan.specs.Banks.{bank_of}
use Rattle.plan.proofs.Orderings.{order_given, order_refused}
use Rattle.plan.proofs.closed.Closed.order.Goals as goal

pub returns-in-Ok : goal.returns-in-Ok
returns-in-Ok g c =
    let x = c.args.self.now.bank in
    let t = c.args.self.now.tables in
    let m = bank_of (g.B.Domain.count x) (g.B.Domain.cost x) (g.B.Domain.response x) in
    let o = order_given m (everywhere_laws g.met.B.Domain.duties x) (held t) (to_sound _ t.ok).room _ c.in-Ok.ensures in
    record {
      says = rw c.len.ensures.is o.says;
      stands = o.stands;
      holds = refl;
      bank = refl;
      refused = o.refused;
      few = rw c.len.ensures.is (subst (λ k. c.in-Ok.placement.examinations ≤ k * (k + 1) / 2) (sym c.in-Ok.ensures.count) c.in-Ok.ensures.few);
      upheld = o.upheld;
    }

pub returns-in-Err : goal.returns-in-Err
returns-in-Err g c =
    let x = c.args.self.now.bank in
    let t = c.args.self.now.tables in
    let m = bank_of (g.B.Domain.count x) (g.B.Domain.cost x) (g.B.Domain.response x) in
    let o = order_refused m (everywhere_laws g.met.B.Domain.duties x) (held t) (to_sound _ t.ok).room _ c.in-Err.ensures in
    record { says = o.says; stands = o.stands; holds = refl; bank = refl; refused = o.refused; few = tt; upheld = o.upheld }
