use Rattle.streams.specs.Demands.{weight}
use Rattle.streams.proofs.weight.weight_of.Goals as goal

pub returns : goal.returns
unfolding weight
returns c = c.div_up.ensures.is
