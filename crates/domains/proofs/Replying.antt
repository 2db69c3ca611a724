-- The duties for all rows: where a row is outside the limits there is no answer. Assumes nothing.
use Rattle.std.proofs.Common.{◌≡◌, ℕ, true, cond, ◌&&◌, List, ◌∷◌, None, Decides, Option, ap₂, arith}
use Rattle.std.specs.List.{AllByRecursion}
use Rattle.std.proofs.lemmas.Bool.{and_parts, and_from, cond_both}
use Rattle.frames.specs.declared.row.Row.{Row}
use Rattle.frames.specs.Limits.{Lawful, lawful}
use Rattle.frames.proofs.Lawfuls.{decides_lawful, from_lawful}
use Rattle.shelf.specs.Folds.{every}
use Rattle.shelf.specs.Times.{NoLater, AtMost}
use Rattle.shelf.proofs.Folds.{decides_every}
use Rattle.shelf.proofs.Perms.{perm_every}
use Rattle.shelf.proofs.Times.{no_later_if}
use Rattle.streams.specs.Demands.{horizon}
use Rattle.domains.specs.Asked.{reply}
use Rattle.domains.specs.Duties.{Duties}
use Rattle.domains.specs.Replies.{ReplyLaws}

pub all_lawful : (rows : List Row) → Decides (every lawful rows) (AllByRecursion Lawful rows)
all_lawful = decides_every lawful Lawful decides_lawful

-- what the test of the rows tells
rows_ok : (f : Row) (us ls : List Row) → (lawful f && (every lawful us && every lawful ls)) ≡ true → (lawful f ≡ true) × (every lawful us ≡ true) × (every lawful ls ≡ true)
rows_ok f us ls e = grind arith

ok_rows : (f : Row) (us ls : List Row) → lawful f ≡ true → every lawful us ≡ true → every lawful ls ≡ true → (lawful f && (every lawful us && every lawful ls)) ≡ true
ok_rows f us ls a b c = grind arith

module _ {D : Type 0} {count : D → ℕ} {cost : D → ℕ → ℕ → ℕ} {response : D → ℕ → Row → List Row → List Row → Option ℕ} (duties : Duties count cost response) (d : D) (k : ℕ) where
  bound : (f : Row) (us ls : List Row) → AtMost horizon (reply (response d k) f us ls)
  unfolding reply
  bound f us ls =
      cond_both (lawful f && (every lawful us && every lawful ls)) (response d k f us ls) None (AtMost horizon)
      (λ e. let p = rows_ok f us ls e in duties.bounded d k f us ls (from_lawful f p.0) ((all_lawful us).0 p.1) ((all_lawful ls).0 p.2))
      (λ e. tt)

  less_above : (f x : Row) (us ls : List Row) → NoLater (reply (response d k) f (x ∷ us) ls) (reply (response d k) f us ls)
  unfolding reply
  less_above f x us ls =
      no_later_if (lawful f && (every lawful (x ∷ us) && every lawful ls)) (lawful f && (every lawful us && every lawful ls)) (response d k f (x ∷ us) ls) (response d k f us ls) (λ e.
      let p = rows_ok f (x ∷ us) ls e in
      let q = and_parts (lawful x) (every lawful us) p.1 in
      (ok_rows f us ls p.0 q.1 p.2, duties.drop_above d k f x us ls (from_lawful f p.0) (from_lawful x q.0) ((all_lawful us).0 q.1) ((all_lawful ls).0 p.2)))

  less_below : (f x : Row) (us ls : List Row) → NoLater (reply (response d k) f us (x ∷ ls)) (reply (response d k) f us ls)
  unfolding reply
  less_below f x us ls =
      no_later_if (lawful f && (every lawful us && every lawful (x ∷ ls))) (lawful f && (every lawful us && every lawful ls)) (response d k f us (x ∷ ls)) (response d k f us ls) (λ e.
      let p = rows_ok f us (x ∷ ls) e in
      let q = and_parts (lawful x) (every lawful ls) p.2 in
      (ok_rows f us ls p.0 p.1 q.1, duties.drop_below d k f x us ls (from_lawful f p.0) (from_lawful x q.0) ((all_lawful us).0 p.1) ((all_lawful ls).0 q.1)))

  down : (f x : Row) (us ls : List Row) → NoLater (reply (response d k) f (x ∷ us) ls) (reply (response d k) f us (x ∷ ls))
  unfolding reply
  down f x us ls =
      no_later_if (lawful f && (every lawful (x ∷ us) && every lawful ls)) (lawful f && (every lawful us && every lawful (x ∷ ls))) (response d k f (x ∷ us) ls) (response d k f us (x ∷ ls)) (λ e.
      let p = rows_ok f (x ∷ us) ls e in
      let q = and_parts (lawful x) (every lawful us) p.1 in
      (ok_rows f us (x ∷ ls) p.0 q.1 (and_from (lawful x) (every lawful ls) q.0 p.2), duties.move_down d k f x us ls (from_lawful f p.0) (from_lawful x q.0) ((all_lawful us).0 q.1) ((all_lawful ls).0 p.2)))

  pub reply_laws : ReplyLaws (reply (response d k))
  unfolding reply
  reply_laws = record {
    above_order = λ f us us' ls p. ap₂ (λ b o. cond (lawful f && (b && every lawful ls)) o None) (perm_every lawful p) (duties.above_order d k f us us' ls p);
    below_order = λ f us ls ls' p. ap₂ (λ b o. cond (lawful f && (every lawful us && b)) o None) (perm_every lawful p) (duties.below_order d k f us ls ls' p);
    bounded = bound;
    fewer_above = less_above;
    fewer_below = less_below;
    lowered = down;
  }
