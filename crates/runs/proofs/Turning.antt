-- A run, one call on and at its end. Assumes nothing.
use Rattle.std.proofs.Common.{◌≡◌, ℕ, ◌≤◌, List, ◌++◌, length, drop, ap, ◌∙◌}
use Rattle.std.proofs.lemmas.List.{at_drop_all, append-nil}
use Rattle.plan.specs.Banks.{Bank}
use Rattle.runs.specs.declared.call.Call.{Call}
use Rattle.runs.specs.Books.{Book, run, replies}
use Rattle.runs.specs.Replies.{Reply}

module _ (m : Bank) (cs : List Call) (i : ℕ) where
  pub run_all : (b : Book) → length cs ≤ i → run m b (drop i cs) ≡ b
  run_all b le = at_drop_all (run m b) cs i le

  pub told_all : (b : Book) (said : List Reply) → length cs ≤ i → said ++ replies m b (drop i cs) ≡ said
  told_all b said le = ap (λ x. said ++ x) (at_drop_all (replies m b) cs i le) ∙ append-nil said
