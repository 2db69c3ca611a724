-- The duties of a CAN FD bus. Assumes nothing.
use Rattle.std.specs.Prelude.{◌≡◌, ℕ, ◌+◌, ◌-◌, ◌*◌, ◌≤◌, max, Bool, cond, List, ◌∷◌, Option, nat_lt, refl}
use Rattle.std.proofs.lemmas.Bool.Decides.{nat_tests}
use Rattle.std.proofs.Math.Path.{ap, ap₂, fun_ext}
use Rattle.std.proofs.Common.{arith, le_refl, le_trans}
use Rattle.std.proofs.lemmas.Nat.{mul-le}
use Rattle.shelf.specs.Picks.{Perm}
use Rattle.shelf.specs.Picks.Pick.{here}
use Rattle.shelf.specs.Picks.Perm.{next}
use Rattle.shelf.specs.Smallest.{solution}
use Rattle.shelf.specs.Times.{or_zero}
use Rattle.shelf.proofs.Perms.{perm_most}
use Rattle.streams.specs.declared.stream.Stream.{Stream}
use Rattle.streams.specs.Demands.{ceil, horizon, LawfulCost}
use Rattle.streams.proofs.Demanding.{ceil_pos, demand_cons, demand_perm}
use Rattle.kinds.specs.KindLaws.{KindLaws, Own}
use Rattle.bus.specs.declared.bus.Bus.{Bus}
use Rattle.bus.specs.Buses.{bus_price, blocking, busy_period, delay, instance_time, over_instances, response_by, bus_time}
use Rattle.bus.specs.Bussing.{response_no_later, response_bounded}

-- ---- costs
extra_le : (b : Bool) (x : ℕ) → cond b x 0 ≤ x
extra_le b x = grind arith

-- a frame takes no less than an arbitration bit
pub dear : (d : Bus) (p : ℕ) → d.arbitration ≤ bus_price d p
dear d p = omega arith

price_lawful : (d : Bus) (p : ℕ) → p ≤ 64 → LawfulCost (bus_price d p)
price_lawful d p h =
    (omega (arith, dear d p, d.arbitrates), omega (arith, mul-le (28 + 10 * p) d.«data» 668 8000 (omega arith) (omega (arith, d.arbitrates, d.sends)), extra_le (nat_lt 16 p) (5 * d.«data»), d.arbitrates, d.sends))

price_grows : (d : Bus) (p q : ℕ) → p ≤ q → bus_price d p ≤ bus_price d q
price_grows d p q h =
    let m : (28 + 10 * p) * d.«data» ≤ (28 + 10 * q) * d.«data» = mul-le (28 + 10 * p) d.«data» (28 + 10 * q) d.«data» (omega arith) (le_refl d.«data») in
    let e : cond (nat_lt 16 p) (5 * d.«data») 0 ≤ cond (nat_lt 16 q) (5 * d.«data») 0 = grind (arith, nat_tests) in
    omega (arith, m, e)

-- ---- the order of the frames
module _ (a : ℕ) (s : Stream) where
  by_loads : ℕ → (ℕ → ℕ) → (ℕ → ℕ) → Option ℕ
  by_loads b all ask =
      over_instances (solution (λ t. b + all t) 1 horizon) s.period (λ q. (or_zero (solution (λ w. (b + q * s.cost) + ask (w + a)) 0 horizon) + s.cost) - q * s.period)

  above_order : (us us' ls : List Stream) → Perm us us' → bus_time a s us ls ≡ bus_time a s us' ls
  unfolding response_by busy_period instance_time delay by_loads
  above_order us us' ls p =
      ap₂ (by_loads (blocking ls)) (fun_ext (demand_perm (next {x = s} (here refl) p))) (fun_ext (demand_perm p))

  below_order : (us ls ls' : List Stream) → Perm ls ls' → bus_time a s us ls ≡ bus_time a s us ls'
  unfolding blocking
  below_order us ls ls' p = ap (response_by a s us) (perm_most (λ x. x.cost) p)

-- ---- frames taken out or moved down
a_pos : (d : Bus) → 1 ≤ d.arbitration
a_pos d = omega (arith, d.arbitrates)

pub short : (d : Bus) (s : Stream) → Own (bus_price d) s → d.arbitration ≤ s.cost
short d s own = le_trans (dear d 0) own.least

blocking_cons : (x : Stream) (ls : List Stream) → blocking (x ∷ ls) ≡ max x.cost (blocking ls)
unfolding blocking
blocking_cons x ls = refl

pub bus_kept : KindLaws bus_price (λ d. bus_time d.arbitration)
bus_kept = record {
  costs = price_lawful;
  grows = λ d p q h l. price_grows d p q h;
  above_order = λ d s us us' ls p. above_order d.arbitration s us us' ls p;
  below_order = λ d s us ls ls' p. below_order d.arbitration s us ls ls' p;
  bounded = λ d s us ls o m n. response_bounded d.arbitration s us (blocking ls) o.fit (short d s o) m;
  drop_above = λ d s x us ls o y m n. response_no_later d.arbitration s (x ∷ us) (blocking ls) us (blocking ls) o.fit (a_pos d) (short d s o) (y, m) m
      (λ w h. omega (arith, demand_cons x us w));
  drop_below = λ d s x us ls o y m n. response_no_later d.arbitration s us (blocking (x ∷ ls)) us (blocking ls) o.fit (a_pos d) (short d s o) m m
      (λ w h. omega (arith, blocking_cons x ls));
  move_down = λ d s x us ls o y m n. response_no_later d.arbitration s (x ∷ us) (blocking ls) us (blocking (x ∷ ls)) o.fit (a_pos d) (short d s o) (y, m) m
      (λ w h. omega (arith, blocking_cons x ls, demand_cons x us w, mul-le 1 x.cost (ceil w x.period) x.cost (ceil_pos x.period w (omega (arith, y.paced)) h) (le_refl x.cost)));
}
