use Rattle.std.proofs.Common.{rules}
use Rattle.std.proofs.Math.Seq.{take-set-lt}
use Rattle.lists.proofs.list.ArrayList.set.Goals as goal

pub returns : goal.returns
returns g c = search (rules, take-set-lt c.args.self.now.count c.args.self.now.cells c.args.i c.args.item)
