-- Picking rows at a place, one more at a time. Assumes nothing.
use Rattle.std.proofs.Common.{◌≡◌, ℕ, zero, suc, ◌+◌, ◌<◌, ◌≤◌, Bool, true, false, cond, List, [], ◌∷◌, ◌++◌, map, length, get_or, take, sym, refl, ap, ◌∙◌, le_of_suc-le-suc, not-suc-le-zero, add-one, arith, length-append}
use Rattle.std.proofs.lemmas.List.Recursion.{and_push}
use Rattle.std.proofs.lemmas.List.{append-nil, map-append}
use Rattle.std.proofs.lemmas.Bool.{cond-true, cond-false, and_from}
use Rattle.frames.specs.declared.row.Row.{Row}
use Rattle.frames.specs.Limits.{lawful}
use Rattle.shelf.specs.Folds.{every}
use Rattle.streams.specs.declared.stream.Stream.{Stream}
use Rattle.domains.specs.Asked.{picked, no_row}
use Rattle.kinds.specs.Rows.{stream_by}

module _ {X : Type 0} where
  at_head : (b : Bool) (x : X) (ys zs : List X) → cond b (x ∷ (ys ++ zs)) (ys ++ zs) ≡ cond b (x ∷ ys) ys ++ zs
  at_head b x ys zs = grind arith

  picked_suc : (t : ℕ → Bool) (xs : List X) (i : ℕ) (d : X) → i < length xs → picked t (take (suc i) xs) ≡ picked t (take i xs) ++ cond (t i) (get_or xs i d ∷ []) []
  picked_suc t [] i d h = absurd (not-suc-le-zero h)
  picked_suc t (x ∷ xs) zero d h = refl
  picked_suc t (x ∷ xs) (suc i) d h =
      rw (picked_suc (λ j. t (suc j)) xs i d (le_of_suc-le-suc h)) (at_head (t 0) x (picked (λ j. t (suc j)) (take i xs)) (cond (t (suc i)) (get_or xs i d ∷ []) []))

  module _ (t : ℕ → Bool) (xs : List X) (i : ℕ) (d : X) (within : i < length xs) where
    pub picked_yes : t i ≡ true → picked t (take (i + 1) xs) ≡ picked t (take i xs) ++ (get_or xs i d ∷ [])
    picked_yes e = rw add-one (picked_suc t xs i d within) ∙ ap (λ l. picked t (take i xs) ++ l) (cond-true (t i) (get_or xs i d ∷ []) [] e)

    pub picked_no : t i ≡ false → picked t (take (i + 1) xs) ≡ picked t (take i xs)
    picked_no e = rw add-one (picked_suc t xs i d within) ∙ ap (λ l. picked t (take i xs) ++ l) (cond-false (t i) (get_or xs i d ∷ []) [] e) ∙ append-nil (picked t (take i xs))

  -- one that is picked and does not pass
  pub picked_fails : (p : X → Bool) (t : ℕ → Bool) (xs : List X) (i : ℕ) (d : X) → i < length xs → t i ≡ true → p (get_or xs i d) ≡ false → every p (picked t xs) ≡ false
  picked_fails p t [] i d h e f = absurd (not-suc-le-zero h)
  picked_fails p t (x ∷ xs) zero d h e f = grind arith
  picked_fails p t (x ∷ xs) (suc i) d h e f = grind (arith, picked_fails p (λ j. t (suc j)) xs i d (le_of_suc-le-suc h) e f)

-- the first i rows are looked at: those picked are within the limits, and their streams stand in the table
pub record Gathering (price : ℕ → ℕ) (t : ℕ → Bool) (rows : List Row) (i : ℕ) (found : List Stream) : Type 0 where
  pub few : length found ≤ i
  pub ok : every lawful (picked t (take i rows)) ≡ true
  pub streams : found ≡ map (stream_by price) (picked t (take i rows))

module _ (price : ℕ → ℕ) (t : ℕ → Bool) (rows : List Row) where
  module _ (i : ℕ) (found : List Stream) (inv : Gathering price t rows i found) (within : i < length rows) where
    pub gathering_skip : t i ≡ false → Gathering price t rows (i + 1) found
    gathering_skip e =
        let same_rows = picked_no t rows i no_row within e in
        record { few = omega (arith, inv.few); ok = ap (every lawful) same_rows ∙ inv.ok; streams = inv.streams ∙ ap (map (stream_by price)) (sym same_rows) }

    pub gathering_more : t i ≡ true → (r : Row) → r ≡ get_or rows i no_row → lawful r ≡ true → Gathering price t rows (i + 1) (found ++ (stream_by price r ∷ []))
    gathering_more e r is ok =
        let more = picked_yes t rows i no_row within e ∙ ap (λ x. picked t (take i rows) ++ (x ∷ [])) (sym is) in
        record {
          few = simp length-append (omega (arith, inv.few));
          ok = ap (every lawful) more ∙ and_push (every lawful) lawful refl (λ _ _. refl) (picked t (take i rows)) r ∙ and_from _ _ inv.ok ok;
          streams = ap (λ l. l ++ (stream_by price r ∷ [])) inv.streams ∙ sym (map-append (stream_by price) (picked t (take i rows)) (r ∷ [])) ∙ ap (map (stream_by price)) (sym more);
        }
