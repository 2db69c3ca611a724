-- The search for a name. Assumes nothing.
use Rattle.std.proofs.Common.{◌≡◌, ℕ, ◌+◌, ◌<◌, ◌≤◌, List, [], ◌∷◌, ◌++◌, length, Some, None, arith}
use Rattle.std.proofs.lemmas.Bool.Decides.{nat_tests}
use Rattle.std.specs.List.{AllByRecursion}
use Rattle.signals.specs.declared.signal.Entry.{Entry}
use Rattle.signals.specs.Names.{place_of, names}
use Rattle.std.proofs.lemmas.Option.{none-some}

pub found_within : (x i j : ℕ) (es : List Entry) → place_of x i es ≡ Some j → (i ≤ j) × (j < i + length es)
found_within x i j [] e = absurd (none-some j e)
found_within x i j (y ∷ es) e = grind (arith, found_within x (i + 1) j es)

-- a name that is free
pub not_found : (x i : ℕ) (es : List Entry) → place_of x i es ≡ None → AllByRecursion (λ y. y ≡ x → ⊥) (names es)
not_found x i [] h = tt
not_found x i (e ∷ es) h = (grind (arith, nat_tests), not_found x (i + 1) es (grind arith))

-- is that of an entry put at the end
pub found_last : (x i : ℕ) (es : List Entry) (e : Entry) → AllByRecursion (λ y. y ≡ x → ⊥) (names es) → e.signal.name ≡ x → place_of x i (es ++ (e ∷ [])) ≡ Some (i + length es)
found_last x i [] e h q = grind (arith, nat_tests)
found_last x i (y ∷ es) e h q = grind (arith, nat_tests, h.0, found_last x (i + 1) es e h.1 q)
