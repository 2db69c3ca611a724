use Rattle.timing.proofs.Combining.{everywhere_laws}
use Rattle.ordering.proofs.Asking.{fresh_count, fresh_below, placed, refused}
use Rattle.ordering.proofs.orders.find_order.Goals as goal

pub arrange-requires-clause-free : goal.arrange-requires-clause-free
arrange-requires-clause-free g c = fresh_count c.args.frames.now.rows.now c.args.frames.now.few

pub arrange-requires-clause-none : goal.arrange-requires-clause-none
arrange-requires-clause-none g c = fresh_below c.args.frames.now.rows.now c.args.frames.now.few

pub returns-in-Some : goal.returns-in-Some
returns-in-Some g c = placed c.args.frames.now.rows.now c.args.frames.now.few (everywhere_laws g.met.B.Domain.duties c.args.frames.now.bank.now) c.in-Some.placement c.in-Some.ensures

pub returns-in-None : goal.returns-in-None
returns-in-None g c = refused c.args.frames.now.rows.now c.args.frames.now.few (everywhere_laws g.met.B.Domain.duties c.args.frames.now.bank.now) c.find_conflict.result c.in-None.ensures c.find_conflict.ensures.table c.find_conflict.ensures.rest c.find_conflict.ensures.size
