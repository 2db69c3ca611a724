use Rattle.std.proofs.Common.{rules, suc, ◌∙◌}
use Rattle.std.proofs.lemmas.Iterator.Consumers.{YieldsList-from_filter_map, YieldsList-at}
use Rattle.packing.specs.Choices.{at_frame, growth_at, choice}
use Rattle.packing.specs.Holds.{held}
use Rattle.packing.proofs.Picking.{numbers_to, picked, lightest_is}
use Rattle.packing.proofs.choose.Entrant.choose.Goals as goal

pub returns : goal.returns
unfolding choice
returns g c =
    let p = held c.args.self.now.tables.now in
    let growth = growth_at (g.D.Domain.cost c.args.self.now.bank.now) p c.args.self.now.signal.now in
    let n = p.frames in
    let road = numbers_to c.new.result n c.new.ensures.start (c.new.ensures.end ∙ c.frame_count-count.ensures.is) c.new.ensures.exhausted in
    picked _ _ (λ x k q e. search rules) _ _ _ _ c.min_by_key.ensures.ran (YieldsList-from_filter_map _ (λ k. at_frame k (growth k)) (YieldsList-at c.filter_map.ensures.source road) c.filter_map.ensures.closure (λ x r q e. search rules))
    ∙ lightest_is growth (suc n)
