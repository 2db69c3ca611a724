use Rattle.std.proofs.Common.{◌≤◌, ◌∙◌, rules}
use Rattle.std.proofs.lemmas.Bool.{cond-false, le-ltb}
use Rattle.domains.proofs.Asking.{asked_mute}
use Rattle.domains.proofs.pair.PairDomain.answer.Goals as goal

pub returns-in_err-j : goal.returns-in_err-j
returns-in_err-j g c =
    let past : 4 ≤ c.args.k = search rules in
    c.from_residual.ensures ∙ asked_mute _ _ _ _ (λ r us ls. cond-false _ _ _ (le-ltb _ _ past))
