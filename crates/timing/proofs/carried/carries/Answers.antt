use Rattle.std.proofs.Common.{ℕ, ◌%◌, ◌^◌, ◌<◌, ◌≤◌, eqb, sym, ap, ◌∙◌, arith, pow_mono}
use Rattle.std.proofs.lemmas.Bool.{le-ltb}
use native.Mathlib.Nat.{div-eq_of_lt}
use Rattle.timing.proofs.carried.carries.Goals as goal

-- a set has eight bits
pub returns-else-k-lt8 : goal.returns-else-k-lt8
returns-else-k-lt8 c =
    let far : 2 ^ 8 ≤ 2 ^ c.args.k = pow_mono c.if-k-lt8.false in
    let small : c.args.set < 2 ^ c.args.k = omega arith in
    le-ltb _ _ c.if-k-lt8.false ∙ sym (ap (λ (n : ℕ). eqb (n % 2) 1) (div-eq_of_lt small))
