-- Answers that are no later than others. Assumes nothing.
use Rattle.std.proofs.Common.{◌≡◌, ℕ, ◌≤◌, Bool, true, cond, leb, Some, None, Option, arith}
use Rattle.std.proofs.lemmas.Bool.Decides.{nat_tests}
use Rattle.shelf.specs.Times.{NoLater, AtMost}

pub no_later_refl : (o : Option ℕ) → NoLater o o
no_later_refl o = grind arith

pub no_later_trans : (o p q : Option ℕ) → NoLater o p → NoLater p q → NoLater o q
no_later_trans o p q h k = grind arith

-- a time that is allowed up to a limit: a smaller time and a higher limit
pub no_later_limit : (s m t n : ℕ) → t ≤ s → m ≤ n → NoLater (cond (leb s m) (Some s) None) (cond (leb t n) (Some t) None)
no_later_limit s m t n h k = grind (arith, nat_tests)

-- an answer under a condition
pub no_later_if : (b c : Bool) (o u : Option ℕ) → (b ≡ true → (c ≡ true) × NoLater o u) → NoLater (cond b o None) (cond c u None)
no_later_if b c o u h = grind arith

pub at_most_if : (b : Bool) (n : ℕ) (o : Option ℕ) → AtMost n o → AtMost n (cond b o None)
at_most_if b n o h = grind arith
