use Rattle.std.proofs.Common.{sym, ◌∙◌, subst}
use Rattle.streams.specs.Demands.{Rounded}
use Rattle.streams.proofs.Demanding.{ceil_rounded, div_ceil_is}
use Rattle.streams.proofs.rounding.div_up.Goals as goal

pub returns : goal.returns
returns c =
    let is = c.div_ceil.ensures ∙ div_ceil_is c.args.n c.args.by c.requires in
    record { is = is; rounded = subst (Rounded c.args.n c.args.by) (sym is) (ceil_rounded c.args.by c.args.n c.requires) }
