use Rattle.std.proofs.Common.{◌≡◌, ◌++◌, map, length, take, drop}
use Rattle.plan.specs.Banks.{bank_of}
use Rattle.runs.specs.Books.{run, replies}
use Rattle.runs.specs.Holds.{plan_book, plan_bank}
use Rattle.runs.specs.Replies.{told}
use Rattle.runs.proofs.replay.replay.Given as goal

-- what is left to run gives what the whole run gives
abbrev pub invariant-loop-i : goal.invariant-loop-i
invariant-loop-i g l =
    let x = plan_bank l.initial.plan in
    let m = bank_of (g.B.Domain.count x) (g.B.Domain.cost x) (g.B.Domain.response x) in
    (plan_bank l.plan ≡ x)
    × (run m (plan_book l.plan) (drop l.i l.calls) ≡ run m (plan_book l.initial.plan) l.calls)
    × (map told (take l.i l.answers) ++ replies m (plan_book l.plan) (drop l.i l.calls) ≡ replies m (plan_book l.initial.plan) l.calls)
    × (drop (length l.calls) l.answers ≡ drop (length l.calls) l.initial.answers)
