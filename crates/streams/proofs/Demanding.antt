-- What streams demand: it rises with the time, and with the streams. Assumes nothing.
use Rattle.std.proofs.Common.{◌≡◌, ℕ, ◌+◌, ◌-◌, ◌*◌, ◌/◌, ◌<◌, ◌≤◌, List, [], ◌∷◌, le_trans, le_refl, mul-le-mul_right, div-lt_iff_lt-mul, mul-le-mul_left, le-div_iff_mul-le, div-mul-le_self, arith}
use Rattle.std.specs.List.{AllByRecursion}
use Rattle.std.specs.Int.{div_ceil}
use Rattle.std.proofs.lemmas.Nat.{mul-le}
use Rattle.std.proofs.lemmas.Grind.{div_ceil_times}
use Rattle.std.proofs.lemmas.List.Sums.{sum_by-cons}
use Rattle.shelf.specs.Picks.{Perm}
use Rattle.shelf.proofs.Perms.{perm_sum}
use Rattle.streams.specs.declared.stream.Stream.{Stream}
use Rattle.streams.specs.Demands.{ceil, demand, total, weight, Fit, Rounded}

-- what an element past the end of a list reads as
abbrev pub no_stream : Stream
no_stream = record { cost = 0; period = 0 }

pub ceil_mono : (t v w : ℕ) → 1 ≤ t → v ≤ w → ceil v t ≤ ceil w t
unfolding ceil
ceil_mono t v w p h = (le-div_iff_mul-le p).1 (le_trans (div-mul-le_self (v + (t - 1)) t) (omega arith))

pub ceil_le : (t w m : ℕ) → 1 ≤ t → w ≤ m * t → ceil w t ≤ m
unfolding ceil
ceil_le t w m p h = let x = (div-lt_iff_lt-mul {k = t} {x = w + (t - 1)} {y = m + 1} p).1 (omega arith) in omega arith

pub ceil_pos : (t w : ℕ) → 1 ≤ t → 1 ≤ w → 1 ≤ ceil w t
unfolding ceil
ceil_pos t w p h = (le-div_iff_mul-le p).1 (omega arith)

covered : (t w : ℕ) → 1 ≤ t → w ≤ ceil w t * t
unfolding ceil
covered t w p = let x = (div-lt_iff_lt-mul {k = t} {x = w + (t - 1)} {y = (w + (t - 1)) / t + 1} p).0 (omega arith) in omega arith

pub ceil_rounded : (t w : ℕ) → 1 ≤ t → Rounded w t (ceil w t)
ceil_rounded t w p = record { covers = covered t w p; least = λ n h. ceil_le t w n p h }

-- the library's quotient that is rounded up
pub div_ceil_is : (w t : ℕ) → 0 < t → div_ceil w t ≡ ceil w t
unfolding ceil
div_ceil_is w t p =
    let times = div_ceil_times w t p in
    omega (arith, ceil_le t w (div_ceil w t) (omega arith) times.0, (le-div_iff_mul-le {k = t} {x = div_ceil w t} {y = w + (t - 1)} p).1 (omega (arith, times.1)))

pub demand_cons : (s : Stream) (streams : List Stream) (w : ℕ) → demand (s ∷ streams) w ≡ ceil w s.period * s.cost + demand streams w
unfolding demand
demand_cons s streams w = sum_by-cons (λ s. ceil w s.period * s.cost) s streams

pub demand_mono : (streams : List Stream) → AllByRecursion Fit streams → (v w : ℕ) → v ≤ w → demand streams v ≤ demand streams w
unfolding demand
demand_mono [] fit v w h = le_refl 0
demand_mono (s ∷ streams) fit v w h =
    omega (
      arith,
      sum_by-cons (λ s. ceil v s.period * s.cost) s streams,
      sum_by-cons (λ s. ceil w s.period * s.cost) s streams,
      mul-le (ceil v s.period) s.cost (ceil w s.period) s.cost (ceil_mono s.period v w (omega (arith, fit.0.paced)) h) (le_refl s.cost),
      demand_mono streams fit.1 v w h,
    )

pub demand_perm : {xs ys : List Stream} → Perm xs ys → (w : ℕ) → demand xs w ≡ demand ys w
unfolding demand
demand_perm p w = perm_sum (λ s. ceil w s.period * s.cost) p

-- what one stream demands up to the horizon fits
pub share_le : (t w c : ℕ) → 1000000 ≤ t → w ≤ 4000008000 → c ≤ 20000000 → ceil w t * c ≤ 80020000000
share_le t w c p h k = mul-le (ceil w t) c 4001 20000000 (ceil_le t w 4001 (omega arith) (omega arith)) k

pub total_cons : (s : Stream) (streams : List Stream) → total (s ∷ streams) ≡ s.cost + total streams
unfolding total
total_cons s streams = sum_by-cons (λ s. s.cost) s streams

pub total_perm : {xs ys : List Stream} → Perm xs ys → total xs ≡ total ys
unfolding total
total_perm p = perm_sum (λ s. s.cost) p

-- a larger cost in a shorter period weighs no less
pub weight_grows : (s q : Stream) → s.cost ≤ q.cost → q.period ≤ s.period → 1 ≤ q.period → weight s ≤ weight q
unfolding weight
weight_grows s q more shorter p =
    ceil_le s.period (s.cost * 1000000) (weight q) (omega arith) (le_trans (mul-le-mul_right 1000000 more) (le_trans (ceil_rounded q.period (q.cost * 1000000) p).covers (mul-le-mul_left (weight q) shorter)))

pub weight_le : (s : Stream) → s.cost ≤ 20000000 → 1000000 ≤ s.period → weight s ≤ 20000000
unfolding weight
weight_le s low long = ceil_le s.period (s.cost * 1000000) 20000000 (omega arith) (omega arith)
