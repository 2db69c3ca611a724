use Rattle.worked.proofs.Working.{figures}
use Rattle.worked.proofs.worked_figures_hold.Goals as goal

pub returns : goal.returns
returns c = figures
