use Rattle.std.proofs.Common.{◌≡◌, ℕ, ◌+◌, ◌≤◌, Some, None, sym, ap, ◌∙◌, arith}
use Rattle.shelf.proofs.Solutions.{is_solution}
use Rattle.streams.specs.Demands.{busy, demand, Fit}
use Rattle.std.proofs.lemmas.List.Elements.{recursion_from_All}
use Rattle.streams.proofs.Demanding.{demand_mono}
use Rattle.streams.proofs.load.Load.settle.Goals as goal

pub returns-then-next-w : goal.returns-then-next-w
returns-then-next-w c =
    let inv = c.loop-w.invariant in
    let rule : ℕ → ℕ = busy c.args.self.now.streams.now c.args.base c.args.ahead in
    let served : c.loop-w.w ≡ rule c.loop-w.w = sym c.if-next-w.true ∙ ap (λ n. c.args.base + n) c.demand.ensures.is in
    record { is = is_solution rule c.args.from 4000000000 c.requires.early (Some c.loop-w.w) (inv.0, c.loop-w-test.true, served, λ v a b p. omega (arith, inv.2 v a p)); soon = c.loop-w-test.true }

pub loop-w-preserved : goal.loop-w-preserved
loop-w-preserved c =
    let x = c.args.ahead in
    let streams = c.args.self.now.streams.now in
    let d = demand streams in
    let up : (v w : ℕ) → v ≤ w → d (v + x) ≤ d (w + x) = λ v w h. demand_mono streams (recursion_from_All Fit _ c.args.self.now.fit) (v + x) (w + x) (omega arith) in
    let h : c.demand.result ≡ d (c.loop-w.w + x) = c.demand.ensures.is in
    let inv = c.loop-w.invariant in
    let next : ℕ = c.args.base + c.demand.result in
    let on : c.loop-w.w ≤ next = omega (arith, inv.1, h) in
    (omega (arith, inv.0, on), omega (arith, h, up c.loop-w.w next on), λ v a p. omega (arith, h, p, up c.loop-w.w v (inv.2 v a p)))

pub returns : goal.returns
returns c =
    let rule : ℕ → ℕ = busy c.args.self.now.streams.now c.args.base c.args.ahead in
    record { is = is_solution rule c.args.from 4000000000 c.requires.early None (λ v a b p. omega (arith, c.loop-w.invariant.2 v a p, c.loop-w-test.false)); soon = tt }
