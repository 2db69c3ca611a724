use Rattle.std.proofs.Common.{◌≡◌, ◌≤◌, map, length, take, sym, ap, ◌∙◌, subst, arith}
use Rattle.timing.proofs.Combining.{everywhere_laws}
use Rattle.weights.proofs.Weighing.{cost_grows}
use Rattle.plan.specs.Banks.{bank_of}
use Rattle.runs.specs.Books.{run, replies, new, draft}
use Rattle.runs.specs.Holds.{plan_book}
use Rattle.runs.specs.Promise.{Promise}
use Rattle.runs.specs.Replies.{told}
use Rattle.runs.proofs.Promises.{promised}
use Rattle.runs.proofs.Turning.{run_all, told_all}
use Rattle.runs.proofs.replay.replay.Goals as goal

pub returns : goal.returns
returns g c =
    let x = c.new.result.bank in
    let m = bank_of (g.B.Domain.count x) (g.B.Domain.cost x) (g.B.Domain.response x) in
    let cs = c.args.calls.now in
    let i = c.loop-i.i in
    let out = c.loop-i.answers in
    let b = plan_book c.loop-i.plan in
    let p = c.loop-i.invariant in
    let le : length cs ≤ i = c.loop-i-test.false in
    let all : i ≡ length cs = omega (arith, c.loop-i.auto.i-end) in
    let e : b ≡ run m new cs = sym (run_all m cs i b le) ∙ p.1 ∙ ap (λ w. run m (draft w) cs) c.new.ensures.holds in
    let f : map told (take (length cs) out) ≡ replies m new cs = ap (λ n. map told (take n out)) (sym all) ∙ sym (told_all m cs i b (map told (take i out)) le) ∙ p.2 ∙ ap (λ w. replies m (draft w) cs) c.new.ensures.holds in (
      omega arith,
      subst (λ w. Promise (bank_of (g.B.Domain.count w) (g.B.Domain.cost w) (g.B.Domain.response w)) cs b (map told (take (length cs) out))) c.new.ensures.bank (promised m (everywhere_laws g.met.B.Domain.duties x) (g.met.B.Domain.duties.sized x).1 (cost_grows _ _ _ g.met.B.Domain.duties x) cs b (map told (take (length cs) out)) e f),
      p.3,
      p.0 ∙ c.new.ensures.bank,
    )
