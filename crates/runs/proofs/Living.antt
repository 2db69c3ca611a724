-- The signals of a packing: one more, and one out. Assumes nothing.
use Rattle.std.proofs.Common.{◌≡◌, ℕ, zero, suc, ◌+◌, Bool, true, false, cond, not, eqb, List, [], ◌∷◌, ◌++◌, map, Some, filter, refl, ap, ◌∙◌, subst, arith}
use Rattle.std.proofs.lemmas.Bool.Decides.{nat_tests}
use Rattle.std.specs.List.{remove, AllByRecursion}
use Rattle.std.proofs.lemmas.List.{map_push}
use Rattle.std.proofs.lemmas.Bool.{eqb-true}
use Rattle.shelf.specs.Apart.{Apart}
use Rattle.signals.specs.declared.signal.Signal.{Signal}
use Rattle.signals.specs.declared.signal.Entry.{Entry}
use Rattle.signals.specs.Names.{place_of, names}
use Rattle.signals.proofs.Finding.{found_within}
use Rattle.packing.specs.Packings.{Packing, placed, lower, closed_up, taken_out}
use Rattle.std.proofs.lemmas.Option.{none-some, same_Some}

abbrev pub signals_of : List Entry → List Signal
signals_of es = map (λ e. e.signal) es

-- those whose name is another
abbrev pub others : ℕ → List Signal → List Signal
others x ss = filter (λ s. not (eqb s.name x)) ss

others_all : (x : ℕ) (es : List Entry) → AllByRecursion (λ y. y ≡ x → ⊥) (names es) → others x (signals_of es) ≡ signals_of es
others_all x [] h = refl
others_all x (e ∷ es) h =
    grind (arith, nat_tests, h.0, others_all x es h.1)

-- the one found is the only one of its name
removed_others : (x j i : ℕ) (es : List Entry) → Apart (names es) → place_of x j es ≡ Some i → (n : ℕ) → j + n ≡ i → signals_of (remove es n) ≡ others x (signals_of es)
removed_others x j i [] a h n k = absurd (none-some i h)
removed_others x j i (e ∷ es) a h n k = go (eqb e.signal.name x) refl h n k (removed_others x (j + 1) i es a.1)
  where
    go : (b : Bool) → eqb e.signal.name x ≡ b → cond b (Some j) (place_of x (j + 1) es) ≡ Some i → (n : ℕ) → j + n ≡ i → (place_of x (j + 1) es ≡ Some i → (n : ℕ) → j + 1 + n ≡ i → signals_of (remove es n) ≡ others x (signals_of es))
        → signals_of (remove (e ∷ es) n) ≡ others x (signals_of (e ∷ es))
    go true t q zero k ih =
        let same : e.signal.name ≡ x = eqb-true _ _ t in
        let rest = others_all x es (subst (λ y. AllByRecursion (λ z. z ≡ y → ⊥) (names es)) same a.0) in
        grind arith
    go true t q (suc n) k ih = absurd (let z = same_Some j i q in let no : ⊥ = omega arith in no)
    go false t q zero k ih = absurd (let w = found_within x (j + 1) i es q in let no : ⊥ = omega (arith, w.0) in no)
    go false t q (suc n) k ih =
        let rest = ih q n (omega arith) in grind arith

lower_signals : (f : ℕ) (es : List Entry) → signals_of (map (lower f) es) ≡ signals_of es
lower_signals f [] = refl
lower_signals f (e ∷ es) = ap (λ l. e.signal ∷ l) (lower_signals f es)

closed_signals : (f : ℕ) (es : List Entry) (n : ℕ) → signals_of (closed_up f es n).signals ≡ signals_of es
closed_signals f es n =
    grind (arith, lower_signals f es)

pub taken_others : (p : Packing) (x i : ℕ) → Apart (names p.signals) → place_of x 0 p.signals ≡ Some i → signals_of (taken_out p i).signals ≡ others x (signals_of p.signals)
unfolding taken_out
taken_others p x i a h =
    closed_signals _ (remove p.signals i) p.frames ∙ removed_others x 0 i p.signals a h i (omega arith)

pub placed_signals : (p : Packing) (s : Signal) (n : ℕ) → signals_of (placed p s n).signals ≡ signals_of p.signals ++ (s ∷ [])
unfolding placed
placed_signals p s n = map_push (λ e. e.signal) p.signals (record { signal = s; frame = n })
