-- The riders of each frame once a frame is gone. Assumes nothing.
use Rattle.std.proofs.Common.{◌≡◌, ℕ, suc, ◌-◌, ◌<◌, cond, ltb, List, [], ◌∷◌, map, sym, refl, ap, ◌∙◌, ⊎_elim, arith}
use Rattle.std.specs.List.{AllByRecursion}
use Rattle.std.proofs.lemmas.Bool.{cases_eq}
use Rattle.std.proofs.lemmas.Bool.Decides.{nat_tests}
use Rattle.signals.specs.declared.signal.Entry.{Entry}
use Rattle.signals.specs.Names.{names}
use Rattle.signals.specs.Riders.{riders}
use Rattle.signals.proofs.Riding.{rider, no_rider, riders_nil}
use Rattle.packing.specs.Packings.{lowered, lower}

-- the number that a frame had before frame f was gone
abbrev pub raised : ℕ → ℕ → ℕ
raised f k = cond (ltb k f) k (suc k)

pub raised_lowered : (f n : ℕ) → (n ≡ f → ⊥) → raised f (lowered f n) ≡ n
raised_lowered f n ne = grind (arith, nat_tests)

pub raised_other : (f k : ℕ) → f ≡ raised f k → ⊥
raised_other f k e = grind (arith, nat_tests)

pub raised_below : (f k n : ℕ) → k < n - 1 → raised f k < n
raised_below f k n l = grind (arith, nat_tests)

pub lowered_below : (f k n : ℕ) → k < n → f < n → (k ≡ f → ⊥) → lowered f k < n - 1
lowered_below f k n l m ne = grind (arith, nat_tests)

pub riders_lowered : (f k : ℕ) (es : List Entry) → AllByRecursion (λ e. e.frame ≡ f → ⊥) es → riders k (map (lower f) es) ≡ riders (raised f k) es
riders_lowered f k [] h = riders_nil k ∙ sym (riders_nil (raised f k))
riders_lowered f k (e ∷ es) h =
    let on = riders_lowered f k es h.1 in
    ⊎_elim {C = riders k (map (lower f) (e ∷ es)) ≡ riders (raised f k) (e ∷ es)}
    (λ q. rider k (lower f e) (map (lower f) es) q ∙ ap (λ ss. e.signal ∷ ss) on ∙ sym (rider (raised f k) e es (grind (arith, nat_tests, h.0))))
    (λ q. no_rider k (lower f e) (map (lower f) es) q ∙ on ∙ sym (no_rider (raised f k) e es (λ r. grind (arith, nat_tests, h.0))))
    (cases_eq (lowered f e.frame) k)

pub names_lowered : (f : ℕ) (es : List Entry) → names (map (lower f) es) ≡ names es
names_lowered f [] = refl
names_lowered f (e ∷ es) = ap (λ ns. e.signal.name ∷ ns) (names_lowered f es)

-- frames before the one that is gone keep their numbers
pub lower_none : (f : ℕ) (es : List Entry) → AllByRecursion (λ e. e.frame < f) es → map (lower f) es ≡ es
lower_none f [] h = refl
lower_none f (e ∷ es) h =
    let same : lowered f e.frame ≡ e.frame = grind (arith, nat_tests, h.0) in
    ap (λ n. record { signal = e.signal; frame = n } ∷ map (lower f) es) same ∙ ap (λ es'. e ∷ es') (lower_none f es h.1)
