-- Which frames of a list a question tells of, and what it is answered. Assumes nothing.
use Rattle.std.specs.Prelude.{ℕ, suc, Bool, true, false, cond, ◌&&◌, List, [], ◌∷◌, length, None, Option, ◌==◌, nat_le, nat_lt, slice_index_or}
use Rattle.frames.specs.declared.row.Row.{Row}
use Rattle.frames.specs.Limits.{lawful}
use Rattle.shelf.specs.Folds.{every}
use Rattle.domains.specs.declared.place.Place.{Place}
use Rattle.domains.specs.declared.place.Place.TheVariants.{Above, Below, Absent}

abbrev pub same : Place → Place → Bool
same Above Above = true
same Above Below = false
same Above Absent = false
same Below Above = false
same Below Below = true
same Below Absent = false
same Absent Above = false
same Absent Below = false
same Absent Absent = true

-- where frame i stands to frame f: itself, and past the end of the places, it is absent
abbrev pub stance : List Place → ℕ → ℕ → Place
stance places f i = cond (i == f) Absent (slice_index_or places i Absent)

-- the elements of a list whose number passes
abbrev pub picked : {X : Type 0} → (ℕ → Bool) → List X → List X
picked t [] = []
picked t (x ∷ xs) = cond (t 0) (x ∷ picked (λ i. t (suc i)) xs) (picked (λ i. t (suc i)) xs)

-- the rows that stand at a place to frame f
unfoldable pub standing : Place → List Row → List Place → ℕ → List Row
standing p rows places f = picked (λ i. same (stance places f i) p) rows

abbrev pub no_row : Row
no_row = record { sender = 0; fill = 0; period = 0; deadline = 0; set = 0 }

-- a frame whose own row, or that of one above or below, is outside the limits of a record gets none
unfoldable pub reply : (Row → List Row → List Row → Option ℕ) → Row → List Row → List Row → Option ℕ
reply response f above below = cond (lawful f && (every lawful above && every lawful below)) (response f above below) None

-- what the call answers: none for more than 96 rows, or a number that is not in the list
unfoldable pub asked : (Row → List Row → List Row → Option ℕ) → List Row → List Place → ℕ → Option ℕ
asked response rows places f =
    cond (nat_le (length rows) 96 && nat_lt f (length rows)) (reply response (slice_index_or rows f no_row) (standing Above rows places f) (standing Below rows places f)) None
