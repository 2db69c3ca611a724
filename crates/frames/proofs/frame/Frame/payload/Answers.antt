use Rattle.std.proofs.Common.{sym, ap, ◌∙◌}
use Rattle.frames.specs.Payloads.{or_full}
use Rattle.frames.proofs.Fitting.{fits_some, payload_is}
use Rattle.frames.proofs.frame.Frame.payload.Goals as goal

pub unwrap-requires : goal.unwrap-requires
unwrap-requires c =
    fits_some c.args.self.now.fill c.args.self.now.filled.1 c.payload_of.result c.payload_of.ensures

pub returns : goal.returns
returns c =
    sym (ap or_full c.unwrap.ensures) ∙ payload_is c.args.self.now.fill c.payload_of.result c.payload_of.ensures
