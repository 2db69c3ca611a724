use Rattle.std.proofs.Common.{◌≡◌, ℕ, ◌-◌, ◌≤◌}
use Rattle.streams.specs.Demands.{busy}
use Rattle.streams.proofs.load.Load.settle.Given as goal

-- w is at most every solution, and the rule does not lower it
abbrev pub invariant-loop-w : goal.invariant-loop-w
invariant-loop-w l =
    let rule : ℕ → ℕ = busy l.self.streams.now l.base l.ahead in
    (l.from ≤ l.w) × (l.w ≤ rule l.w) × ((v : ℕ) → l.from ≤ v → v ≡ rule v → l.w ≤ v)

abbrev pub decreases-loop-w : goal.decreases-loop-w
decreases-loop-w l = 4000000001 - l.w
