use Rattle.std.proofs.Common.{◌≡◌, ℕ, ◌<◌, ◌≤◌, ◌⊎◌, cond, eqb, ltb, length, Some, None, ap, ◌∙◌, inl, inr, arith, rules, tests}
use Rattle.std.specs.List.{position_or_len}
use Rattle.std.specs.Option.{unwrap_or}
use Rattle.std.proofs.lemmas.Bool.{cases_lt, lt-ltb, le-ltb}
use Rattle.std.proofs.lemmas.Iterator.{YieldsList-from_slice}
use Rattle.std.proofs.lemmas.Iterator.Search.{position_from_yields_List}
use Rattle.std.proofs.lemmas.List.Sums.{prefix_len-le-length}
use Rattle.plan.proofs.closed.line.place_of.Goals as goal

place_or_length : (place n : ℕ) → place ≤ n → unwrap_or (cond (ltb place n) (Some place) None) n ≡ place
place_or_length place n l = go (cases_lt place n)
  where
    go : (place < n) ⊎ (n ≤ place) → unwrap_or (cond (ltb place n) (Some place) None) n ≡ place
    go (inl h) = ap (λ b. unwrap_or (cond b (Some place) None) n) (lt-ltb place n h)
    go (inr h) = ap (λ b. unwrap_or (cond b (Some place) None) n) (le-ltb place n h) ∙ omega arith

pub returns-clause-is : goal.returns-clause-is
returns-clause-is c =
    let numbers = c.args.numbers.now in
    let at = position_from_yields_List (λ x. eqb x c.args.n) _ _ c.position.result c.position.ensures.ran (YieldsList-from_slice numbers cc) (λ x b q k. search (rules, tests)) in
    c.unwrap_or.ensures ∙ ap (λ o. unwrap_or o (length numbers)) at ∙ place_or_length (position_or_len (λ x. eqb x c.args.n) numbers) (length numbers) (prefix_len-le-length _ numbers)
