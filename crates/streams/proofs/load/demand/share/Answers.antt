use Rattle.std.proofs.Common.{◌*◌, ap, arith}
use Rattle.streams.proofs.Demanding.{share_le}
use Rattle.streams.proofs.load.demand.share.Goals as goal

pub overflow_mul-result : goal.overflow_mul-result
overflow_mul-result c =
    let s = c.args.stream.now in
    let e = ap (λ n. n * s.cost) c.div_up.ensures.is in
    record { fits = omega (arith, e, share_le s.period c.args.w s.cost c.requires.fit.paced.0 c.requires.soon c.requires.fit.priced.1) }

pub returns : goal.returns
returns c =
    let s = c.args.stream.now in
    let e = ap (λ n. n * s.cost) c.div_up.ensures.is in
    record { is = e; low = omega (arith, e, share_le s.period c.args.w s.cost c.requires.fit.paced.0 c.requires.soon c.requires.fit.priced.1) }
