-- The duties of a gateway processor. Assumes nothing.
use Rattle.std.specs.Prelude.{◌≡◌, ℕ, ◌+◌, ◌≤◌, List, ◌∷◌, refl}
use Rattle.std.proofs.Common.{ap, arith, mul-le-mul_left}
use Rattle.std.proofs.Math.Path.{fun_ext}
use Rattle.std.specs.List.{AllByRecursion}
use Rattle.std.proofs.lemmas.Nat.{mul-le}
use Rattle.shelf.specs.Picks.{Perm}
use Rattle.shelf.specs.Smallest.{solution}
use Rattle.shelf.specs.Times.{NoLater, AtMost}
use Rattle.shelf.proofs.Solutions.{solution_is, solution_no_later, solution_at_most}
use Rattle.shelf.proofs.Times.{no_later_refl}
use Rattle.streams.specs.declared.stream.Stream.{Stream}
use Rattle.streams.specs.Demands.{horizon, Fit, LawfulCost}
use Rattle.streams.proofs.Demanding.{demand_cons, demand_mono, demand_perm}
use Rattle.kinds.specs.KindLaws.{KindLaws}
use Rattle.gateway.specs.declared.gateway.Gateway.{Gateway}
use Rattle.gateway.specs.Gateways.{gateway_price, served, relayed, Relayed}

price_lawful : (d : Gateway) (p : ℕ) → p ≤ 64 → LawfulCost (gateway_price d p)
price_lawful d p h =
    (omega (arith, d.starts), omega (arith, mul-le d.byte p 1000 64 d.copies.1 h, d.starts))

pub relayed_is : (s : Stream) (us ls : List Stream) → Relayed s us (relayed s us ls)
unfolding relayed
relayed_is s us ls = solution_is (served s us) 1 horizon (omega arith)

above_order : (s : Stream) (us us' ls : List Stream) → Perm us us' → relayed s us ls ≡ relayed s us' ls
unfolding relayed
above_order s us us' ls p =
    ap (λ (rule : ℕ → ℕ). solution rule 1 horizon) (fun_ext (λ w. ap (λ n. s.cost + n) (demand_perm p w)))

-- what stands below does not matter
below_any : (s : Stream) (us ls ls' : List Stream) → relayed s us ls ≡ relayed s us ls'
unfolding relayed
below_any s us ls ls' = refl

time_bounded : (s : Stream) (us ls : List Stream) → AtMost horizon (relayed s us ls)
unfolding relayed
time_bounded s us ls = solution_at_most (served s us) 1 horizon (omega arith)

-- one stream less above, whatever stands below
without_above : (s x : Stream) (us ls ls' : List Stream) → Fit s → AllByRecursion Fit us → NoLater (relayed s (x ∷ us) ls) (relayed s us ls')
unfolding relayed
without_above s x us ls ls' f m =
    solution_no_later (served s (x ∷ us)) (served s us) 1 horizon (omega arith) (λ v w h. omega (arith, demand_mono us m v w h)) (omega (arith, f.priced)) (λ w h. omega (arith, demand_cons x us w))

without_below : (s x : Stream) (us ls : List Stream) → NoLater (relayed s us (x ∷ ls)) (relayed s us ls)
unfolding relayed
without_below s x us ls = no_later_refl (solution (served s us) 1 horizon)

pub gateway_kept : KindLaws gateway_price (λ g. relayed)
gateway_kept = record {
  costs = price_lawful;
  grows = λ d p q h l. omega (arith, mul-le-mul_left d.byte h);
  above_order = λ d s us us' ls p. above_order s us us' ls p;
  below_order = λ d s us ls ls' p. below_any s us ls ls';
  bounded = λ d s us ls f m n. time_bounded s us ls;
  drop_above = λ d s x us ls f y m n. without_above s x us ls ls f.fit m;
  drop_below = λ d s x us ls f y m n. without_below s x us ls;
  move_down = λ d s x us ls f y m n. without_above s x us ls (x ∷ ls) f.fit m;
}
