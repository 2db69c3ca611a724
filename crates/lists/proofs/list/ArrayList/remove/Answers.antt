use Rattle.std.proofs.Common.{◌<◌, subst, arith, length-take-le}
use Rattle.lists.proofs.Turning.{remove_turned}
use Rattle.lists.proofs.list.ArrayList.remove.Goals as goal

pub returns-clause-items : goal.returns-clause-items
returns-clause-items g c =
    let l = c.args.self.now in
    let within = subst (λ k. c.args.i < k) (length-take-le l.count l.cells (omega arith)) c.requires in
    remove_turned c.args.i l.count l.cells _ within (omega arith) c.rotate_left.ensures.after
