use Rattle.std.proofs.Common.{refl, rules, tests}
use Rattle.std.proofs.lemmas.Iterator.{YieldsList-from_range}
use Rattle.std.proofs.lemmas.Iterator.Search.{all_from_yields_List}
use Rattle.timing.specs.Everywhere.{in_domain, everywhere}
use Rattle.timing.specs.Places.{row_at, rows_above, rows_below}
use Rattle.timing.proofs.everywhere.Trial.in_time.Goals as goal

pub returns : goal.returns
unfolding everywhere
returns g c =
    let rows = c.args.self.now.frames.now.rows.now in
    let ps = c.args.self.now.places.now in
    let f = c.args.f in
    all_from_yields_List (λ k. in_domain (g.B.Domain.response c.args.self.now.frames.now.bank.now) k (row_at rows f) (rows_above rows ps f) (rows_below rows ps f)) _ _ _ c.all.ensures.ran (YieldsList-from_range 0 4 4 refl refl) (λ x b q k. search (rules, tests))
