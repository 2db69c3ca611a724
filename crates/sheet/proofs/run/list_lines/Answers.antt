use Rattle.std.proofs.Common.{rules}
use Rattle.sheet.proofs.Planning.{plan_by}
use Rattle.sheet.proofs.run.list_lines.Goals as goal

pub returns : goal.returns
returns g c = let plan = plan_by g.met.B.Domain.duties c.args.bank in search (rules, plan)
