-- The duties of a kind over rows, from those over streams. Assumes nothing.
use Rattle.std.proofs.Common.{◌≡◌, ℕ, ◌<◌, ◌≤◌, true, false, cond, eqb, List, map, None, Option, ap, arith}
use Rattle.std.specs.List.{AllByRecursion}
use Rattle.std.proofs.ByRecursion.{All-map, All-weaker}
use Rattle.std.proofs.lemmas.Bool.{cond-false, eq-eqb, ne_eqb}
use Rattle.frames.specs.declared.row.Row.{Row}
use Rattle.frames.specs.Limits.{Lawful}
use Rattle.frames.specs.Payloads.{payload}
use Rattle.frames.proofs.Fitting.{payload_le}
use Rattle.shelf.proofs.Perms.{perm_map}
use Rattle.shelf.proofs.Times.{no_later_if, at_most_if}
use Rattle.streams.specs.declared.stream.Stream.{Stream}
use Rattle.streams.specs.Demands.{Fit}
use Rattle.domains.specs.Duties.{Duties}
use Rattle.kinds.specs.KindLaws.{KindLaws, Own}
use Rattle.kinds.specs.Rows.{stream_by, one, alone_cost, alone_response}

at_zero : (k : ℕ) → k < 1 → eqb k 0 ≡ true
at_zero k h = eq-eqb k 0 (omega arith)

past_zero : (k : ℕ) → 1 ≤ k → eqb k 0 ≡ false
past_zero k h = ne_eqb k 0 (omega arith)

module _ {D : Type 0} {price : D → ℕ → ℕ} {time : D → Stream → List Stream → List Stream → Option ℕ} (laws : KindLaws price time) where
  -- a row within the limits of a record is a stream within the limits of a domain
  fit_by : (d : D) (r : Row) → Lawful r → Fit (stream_by (price d) r)
  fit_by d r l = record { priced = laws.costs d (payload r.fill) (payload_le r.fill); paced = l.paced }

  pub own_by : (d : D) (r : Row) → Lawful r → Own (price d) (stream_by (price d) r)
  own_by d r l = record { fit = fit_by d r l; least = laws.grows d 0 (payload r.fill) (omega arith) (payload_le r.fill) }

  pub all_fit : (d : D) (rows : List Row) → AllByRecursion Lawful rows → AllByRecursion Fit (map (stream_by (price d)) rows)
  all_fit d rows l = All-map Fit (stream_by (price d)) rows (All-weaker Lawful (λ r. Fit (stream_by (price d) r)) (fit_by d) rows l)

  pub kind_duties : Duties one (alone_cost price) (alone_response price time)
  kind_duties = record {
    sized = λ d. (omega arith, omega arith);
    costs = λ d k p h l. rw (at_zero k h) (laws.costs d p l);
    grows = λ d k p q h l m. rw (at_zero k h) (laws.grows d p q l m);
    free = λ d k p h. cond-false _ _ _ (past_zero k h);
    mute = λ d k f a b h. cond-false _ _ _ (past_zero k h);
    above_order = λ d k f a o b p. ap (λ x. cond (eqb k 0) x None) (laws.above_order d _ _ _ _ (perm_map (stream_by (price d)) p));
    below_order = λ d k f a b o p. ap (λ x. cond (eqb k 0) x None) (laws.below_order d _ _ _ _ (perm_map (stream_by (price d)) p));
    bounded = λ d k f a b l m n. at_most_if (eqb k 0) _ _ (laws.bounded d _ _ _ (own_by d f l) (all_fit d a m) (all_fit d b n));
    drop_above = λ d k f x a b l y m n. no_later_if (eqb k 0) (eqb k 0) _ _ (λ e. (e, laws.drop_above d _ _ _ _ (own_by d f l) (fit_by d x y) (all_fit d a m) (all_fit d b n)));
    drop_below = λ d k f x a b l y m n. no_later_if (eqb k 0) (eqb k 0) _ _ (λ e. (e, laws.drop_below d _ _ _ _ (own_by d f l) (fit_by d x y) (all_fit d a m) (all_fit d b n)));
    move_down = λ d k f x a b l y m n. no_later_if (eqb k 0) (eqb k 0) _ _ (λ e. (e, laws.move_down d _ _ _ _ (own_by d f l) (fit_by d x y) (all_fit d a m) (all_fit d b n)));
  }
