use Rattle.worked.proofs.Working.{later}
use Rattle.worked.proofs.later_instance_exists.Goals as goal

pub returns : goal.returns
returns c = later
