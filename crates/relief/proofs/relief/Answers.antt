use Rattle.std.proofs.Common.{Some, subst}
use Rattle.shelf.specs.Times.{NoLater}
use Rattle.relief.proofs.Lowering.{eased, still_some, gain}
use Rattle.relief.proofs.relief.Goals as goal

pub unwrap-after-requires : goal.unwrap-after-requires
unwrap-after-requires g c =
    still_some g.met.D.Domain.duties c.args.domain.now c.args.k c.args.rows.now c.args.places c.left_out-without.result c.args.f c.args.i c.in_ok-before.before c.answer-2.result c.in_ok-before.ensures c.left_out-without.ensures c.answer-2.ensures

pub overflow_sub-result : goal.overflow_sub-result
overflow_sub-result g c =
    subst (NoLater (Some c.in_ok-before.before)) c.unwrap-after.ensures (eased g.met.D.Domain.duties c.args.domain.now c.args.k c.args.rows.now c.args.places c.left_out-without.result c.args.f c.args.i c.in_ok-before.before c.answer-2.result c.in_ok-before.ensures c.left_out-without.ensures c.answer-2.ensures)

pub returns : goal.returns
returns g c =
    gain g.met.D.Domain.duties c.args.domain.now c.args.k c.args.rows.now c.args.places c.left_out-without.result c.args.f c.args.i c.in_ok-before.before c.answer-2.result c.in_ok-before.ensures c.left_out-without.ensures c.answer-2.ensures c.unwrap-after.result c.unwrap-after.ensures
