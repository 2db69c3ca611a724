-- The duties of a radio link. Assumes nothing.
use Rattle.std.specs.Prelude.{◌≡◌, ℕ, ◌+◌, ◌≤◌, min, cond, List, ◌∷◌, Some, None, nat_le}
use Rattle.std.proofs.lemmas.Bool.Decides.{nat_tests}
use Rattle.std.proofs.Common.{ap, ap₂, arith, mul-le-mul_left}
use Rattle.std.proofs.lemmas.Nat.{mul-le}
use Rattle.shelf.specs.Folds.{least}
use Rattle.shelf.specs.Picks.{Perm}
use Rattle.shelf.specs.Times.{NoLater, AtMost}
use Rattle.shelf.proofs.Folds.{least_le, least_mono}
use Rattle.shelf.proofs.Perms.{perm_least}
use Rattle.shelf.proofs.Times.{no_later_limit}
use Rattle.streams.specs.declared.stream.Stream.{Stream}
use Rattle.streams.specs.Demands.{horizon, total, Fit, LawfulCost}
use Rattle.streams.proofs.Demanding.{total_cons, total_perm}
use Rattle.kinds.specs.KindLaws.{KindLaws}
use Rattle.radio.specs.declared.radio.Radio.{Radio}
use Rattle.radio.specs.Radios.{radio_price, round, shortest, radio_time}

abbrev period : Stream → ℕ
period s = s.period

price_lawful : (d : Radio) (p : ℕ) → p ≤ 64 → LawfulCost (radio_price d p)
price_lawful d p h =
    (omega (arith, mul-le 1 1 d.byte (p + 6) (omega (arith, d.limits)) (omega arith)), omega (arith, mul-le d.byte (p + 6) 200000 70 d.limits.1 (omega arith)))

-- a round that is no longer, and a smallest period that is no smaller
eased : (s : Stream) (us ls us' ls' : List Stream) → round s us' ls' ≤ round s us ls → shortest s us ls ≤ shortest s us' ls' → NoLater (radio_time s us ls) (radio_time s us' ls')
eased s us ls us' ls' h k = no_later_limit (round s us ls) (shortest s us ls) (round s us' ls') (shortest s us' ls') h k

-- equal ones
alike : (s : Stream) (us ls us' ls' : List Stream) → round s us ls ≡ round s us' ls' → shortest s us ls ≡ shortest s us' ls' → radio_time s us ls ≡ radio_time s us' ls'
alike s us ls us' ls' h k = ap₂ (λ (r m : ℕ). cond (nat_le r m) (Some r) None) h k

module _ (s x : Stream) (us ls : List Stream) where
  time_bounded : Fit s → AtMost horizon (radio_time s us ls)
  time_bounded fit =
      grind (arith, nat_tests, least_le period (least period s.period us) ls, least_le period s.period us, fit.paced)

  without_above : NoLater (radio_time s (x ∷ us) ls) (radio_time s us ls)
  without_above =
      eased s (x ∷ us) ls us ls (omega (arith, total_cons x us)) (least_mono period (least period s.period (x ∷ us)) (least period s.period us) ls (omega arith))

  without_below : NoLater (radio_time s us (x ∷ ls)) (radio_time s us ls)
  without_below = eased s us (x ∷ ls) us ls (omega (arith, total_cons x ls)) (omega arith)

  moved_down : NoLater (radio_time s (x ∷ us) ls) (radio_time s us (x ∷ ls))
  moved_down =
      let m = least period s.period us in
      eased s (x ∷ us) ls us (x ∷ ls) (omega (arith, total_cons x us, total_cons x ls))
      (omega (arith, least_mono period (min x.period m) m ls (omega arith), least_le period (min x.period m) ls))

above_order : (s : Stream) (us us' ls : List Stream) → Perm us us' → radio_time s us ls ≡ radio_time s us' ls
above_order s us us' ls p =
    alike s us ls us' ls (ap (λ n. s.cost + n + total ls) (total_perm p)) (ap (λ m. least period m ls) (perm_least period s.period p))

below_order : (s : Stream) (us ls ls' : List Stream) → Perm ls ls' → radio_time s us ls ≡ radio_time s us ls'
below_order s us ls ls' p =
    alike s us ls us ls' (ap (λ n. s.cost + total us + n) (total_perm p)) (perm_least period (least period s.period us) p)

pub radio_kept : KindLaws radio_price (λ r. radio_time)
radio_kept = record {
  costs = price_lawful;
  grows = λ d p q h l. mul-le-mul_left d.byte (omega arith);
  above_order = λ d s us us' ls p. above_order s us us' ls p;
  below_order = λ d s us ls ls' p. below_order s us ls ls' p;
  bounded = λ d s us ls f m n. time_bounded s s us ls f.fit;
  drop_above = λ d s x us ls f y m n. without_above s x us ls;
  drop_below = λ d s x us ls f y m n. without_below s x us ls;
  move_down = λ d s x us ls f y m n. moved_down s x us ls;
}
