use Rattle.std.proofs.Common.{sym, subst}
use Rattle.shelf.specs.Smallest.{Smallest}
use Rattle.frames.specs.Payloads.{Fits}
use Rattle.frames.proofs.Fitting.{find_fits}
use Rattle.frames.proofs.payload.payload_of.Goals as goal

pub returns : goal.returns
returns c = subst (Smallest (Fits c.args.fill) 0 64) (sym c.first_fit.ensures) (find_fits c.args.fill)
