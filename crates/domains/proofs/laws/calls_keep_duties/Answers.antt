use Rattle.domains.proofs.Asking.{call_laws}
use Rattle.domains.proofs.laws.calls_keep_duties.Goals as goal

pub returns : goal.returns
returns g c = call_laws g.met.D.Domain.duties c.args.domain.now c.args.k
