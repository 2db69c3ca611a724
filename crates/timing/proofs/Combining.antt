-- The duties of the domains give the laws of being in time. Assumes nothing.
use Rattle.std.proofs.Common.{◌≡◌, ℕ, Bool, true, false, cond, not, ◌&&◌, ◌||◌, List, [], ◌∷◌, filter, Option, refl, ap, arith}
use Rattle.std.proofs.lemmas.Bool.Decides.{nat_tests}
use Rattle.frames.specs.declared.row.Row.{Row}
use Rattle.timing.specs.Carried.{carried}
use Rattle.shelf.specs.Folds.{every}
use Rattle.shelf.specs.Times.{NoLater}
use Rattle.shelf.proofs.Parts.{perm_kept}
use Rattle.domains.specs.Duties.{Duties}
use Rattle.domains.specs.Replies.{ReplyLaws}
use Rattle.domains.proofs.Replying.{reply_laws}
use Rattle.timing.specs.Carried.{timely}
use Rattle.timing.specs.Everywhere.{in_domain, four, everywhere}
use Rattle.timing.specs.Laws.{Laws}

no_later : (r s : Option ℕ) (d : ℕ) → NoLater r s → timely r d ≡ true → timely s d ≡ true
no_later r s d n e = grind (arith, nat_tests)

or_map : (a b c : Bool) → (b ≡ true → c ≡ true) → (a || b) ≡ true → (a || c) ≡ true
or_map a b c f e = grind arith

module _ {answer : Row → List Row → List Row → Option ℕ} (replies : ReplyLaws answer) (carries : Row → Bool) where
  pub laws_domain : Laws (λ f us ls. not (carries f) || timely (answer f (filter carries us) (filter carries ls)) f.deadline)
  laws_domain = record {
    above = λ f us us' ls p. ap (λ a. not (carries f) || timely a f.deadline) (replies.above_order f (filter carries us) (filter carries us') (filter carries ls) (perm_kept carries p));
    below = λ f us ls ls' p. ap (λ a. not (carries f) || timely a f.deadline) (replies.below_order f (filter carries us) (filter carries ls) (filter carries ls') (perm_kept carries p));
    fewer_above = λ f x us ls.
        let k = filter carries us in
        let m = filter carries ls in
        elim (carries x) as (λ b. (not (carries f) || timely (answer f (cond b (x ∷ k) k) m) f.deadline) ≡ true → (not (carries f) || timely (answer f k m) f.deadline) ≡ true) [
          | true ↦ or_map (not (carries f)) (timely (answer f (x ∷ k) m) f.deadline) (timely (answer f k m) f.deadline) (no_later (answer f (x ∷ k) m) (answer f k m) f.deadline (replies.fewer_above f x k m))
          | false ↦ λ h. h
        ];
    fewer_below = λ f x us ls.
        let k = filter carries us in
        let m = filter carries ls in
        elim (carries x) as (λ b. (not (carries f) || timely (answer f k (cond b (x ∷ m) m)) f.deadline) ≡ true → (not (carries f) || timely (answer f k m) f.deadline) ≡ true) [
          | true ↦ or_map (not (carries f)) (timely (answer f k (x ∷ m)) f.deadline) (timely (answer f k m) f.deadline) (no_later (answer f k (x ∷ m)) (answer f k m) f.deadline (replies.fewer_below f x k m))
          | false ↦ λ h. h
        ];
    lowered = λ f x us ls.
        let k = filter carries us in
        let m = filter carries ls in
        elim (carries x) as (λ b. (not (carries f) || timely (answer f (cond b (x ∷ k) k) m) f.deadline) ≡ true → (not (carries f) || timely (answer f k (cond b (x ∷ m) m)) f.deadline) ≡ true) [
          | true ↦ or_map (not (carries f)) (timely (answer f (x ∷ k) m) f.deadline) (timely (answer f k (x ∷ m)) f.deadline) (no_later (answer f (x ∷ k) m) (answer f k (x ∷ m)) f.deadline (replies.lowered f x k m))
          | false ↦ λ h. h
        ];
  }

and_map : (a b c d : Bool) → (a ≡ true → c ≡ true) → (b ≡ true → d ≡ true) → (a && b) ≡ true → (c && d) ≡ true
and_map a b c d f g e = grind arith

-- each of some tests
abbrev each : {F : Type 0} → (ℕ → F → List F → List F → Bool) → List ℕ → F → List F → List F → Bool
each t ks f us ls = every (λ k. t k f us ls) ks

laws_all : {F : Type 0} (t : ℕ → F → List F → List F → Bool) → ((k : ℕ) → Laws (t k)) → (ks : List ℕ) → Laws (each t ks)
laws_all t laws [] = record {
  above = λ f us us' ls p. refl;
  below = λ f us ls ls' p. refl;
  fewer_above = λ f x us ls h. h;
  fewer_below = λ f x us ls h. h;
  lowered = λ f x us ls h. h;
}
laws_all t laws (k ∷ ks) =
    let a = laws k in
    let b = laws_all t laws ks in
    record {
      above = λ f us us' ls p. let x = a.above f us us' ls p in let y = b.above f us us' ls p in cc;
      below = λ f us ls ls' p. let x = a.below f us ls ls' p in let y = b.below f us ls ls' p in cc;
      fewer_above = λ f x us ls. and_map (t k f (x ∷ us) ls) (each t ks f (x ∷ us) ls) (t k f us ls) (each t ks f us ls) (a.fewer_above f x us ls) (b.fewer_above f x us ls);
      fewer_below = λ f x us ls. and_map (t k f us (x ∷ ls)) (each t ks f us (x ∷ ls)) (t k f us ls) (each t ks f us ls) (a.fewer_below f x us ls) (b.fewer_below f x us ls);
      lowered = λ f x us ls. and_map (t k f (x ∷ us) ls) (each t ks f (x ∷ us) ls) (t k f us (x ∷ ls)) (each t ks f us (x ∷ ls)) (a.lowered f x us ls) (b.lowered f x us ls);
    }

-- of any bank that keeps the duties
pub everywhere_laws : {B : Type 0} {count : B → ℕ} {cost : B → ℕ → ℕ → ℕ} {response : B → ℕ → Row → List Row → List Row → Option ℕ} → Duties count cost response → (b : B) → Laws (everywhere (response b))
unfolding everywhere
everywhere_laws {response = response} duties b =
    laws_all (in_domain (response b)) (λ k. laws_domain (reply_laws duties b k) (carried k)) four
