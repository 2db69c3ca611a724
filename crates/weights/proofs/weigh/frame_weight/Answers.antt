use Rattle.std.proofs.Common.{rules, ℕ, ◌≡◌, ◌+◌, refl, arith}
use Rattle.std.proofs.lemmas.Iterator.{YieldsList-from_range, YieldsList-from_map}
use Rattle.std.proofs.lemmas.Iterator.Adapters.{fits_from_length, at_most_from_yields_List, total_from_yields_List}
use Rattle.frames.proofs.Lawfuls.{lawful_frame}
use Rattle.frames.specs.Records.{row_of}
use Rattle.weights.specs.Weights.{weight_in, row_weight}
use Rattle.weights.proofs.Weighing.{weight_in_le}
use Rattle.weights.proofs.weigh.frame_weight.Goals as goal

pub sum-requires-clause-fits : goal.sum-requires-clause-fits
sum-requires-clause-fits g c =
    fits_from_length _ _ 4 _ (at_most_from_yields_List (YieldsList-from_range 0 4 4 (search rules) refl) (omega arith)) c.map.ensures.closure (omega arith) (λ x r q k. search rules)

pub returns : goal.returns
unfolding row_weight
returns g c =
    let cost = g.D.Domain.cost c.args.bank.now in
    let r = row_of c.args.frame.now in
    let is : c.sum.result ≡ row_weight cost r = total_from_yields_List ◌+◌ 0 c.sum.result c.sum.ensures.ran (YieldsList-from_map _ (λ k. weight_in cost k r) (YieldsList-from_range 0 4 4 (search rules) refl) c.map.ensures.closure (λ x r q k. search rules)) in
    let le = λ (k : ℕ). weight_in_le _ _ _ g.met.D.Domain.duties c.args.bank.now k r (lawful_frame c.args.frame.now) in
    record { is = is; low = omega (arith, is, le 0, le 1, le 2, le 3) }
