-- Orders, the greedy choice of one, and the conflict. Assumes nothing.
use Rattle.std.specs.Prelude.{◌≡◌, ℕ, zero, suc, ◌+◌, Bool, true, cond, List, [], ◌∷◌, ◌++◌, map, length, is_some, Some, None, Option, slice_index_or}
use Rattle.shelf.specs.Picks.{Pick, Perm, Part}
use Rattle.shelf.specs.Numbers.{without, numbers}
use Rattle.timing.specs.Places.{by_number}

-- every frame of the order is in time with those before it above and those after it below
abbrev pub Meets : {F : Type 0} → (F → List F → List F → Bool) → List F → Type 0
Meets {F} t ys = (us : List F) (f : F) (ls : List F) → ys ≡ us ++ (f ∷ ls) → t f us ls ≡ true

abbrev pub HasOrder : {F : Type 0} → (F → List F → List F → Bool) → List F → Type 0
HasOrder {F} t xs = (ys : List F) × Perm xs ys × Meets t ys

-- the first that passes, and how many were looked at
abbrev pub found : (ℕ → Bool) → List ℕ → Option ℕ
found p [] = None
found p (x ∷ xs) = cond (p x) (Some x) (found p xs)

abbrev pub examined : (ℕ → Bool) → List ℕ → ℕ
examined p [] = 0
examined p (x ∷ xs) = cond (p x) 1 (1 + examined p xs)

-- in time at the place next above those of bs, with the others of us above
abbrev pub at_place : (ℕ → List ℕ → List ℕ → Bool) → List ℕ → List ℕ → ℕ → Bool
at_place t us bs x = t x (without x us) bs

-- places from the last to the first: m are left, us have none, bs have the last ones
abbrev pub greedy : (ℕ → List ℕ → List ℕ → Bool) → ℕ → List ℕ → List ℕ → Option (List ℕ)
greedy t zero us bs = Some bs
greedy t (suc m) us bs = elim (found (at_place t us bs) us) [ None ↦ None | Some x ↦ greedy t m (without x us) (x ∷ bs) ]

abbrev pub examinations : (ℕ → List ℕ → List ℕ → Bool) → ℕ → List ℕ → List ℕ → ℕ
examinations t zero us bs = 0
examinations t (suc m) us bs = examined (at_place t us bs) us + elim (found (at_place t us bs) us) [ None ↦ 0 | Some x ↦ examinations t m (without x us) (x ∷ bs) ]

abbrev pub orderable : (ℕ → List ℕ → List ℕ → Bool) → List ℕ → Bool
orderable t cs = is_some (greedy t (length cs) cs [])

-- the frames of xs in turn: each is dropped from cs without which the rest still has no order
abbrev pub shrink : (List ℕ → Bool) → List ℕ → List ℕ → List ℕ
shrink ok [] cs = cs
shrink ok (x ∷ xs) cs = cond (ok (without x cs)) (shrink ok xs cs) (shrink ok xs (without x cs))

abbrev pub conflict : (ℕ → List ℕ → List ℕ → Bool) → List ℕ → List ℕ
conflict t xs = shrink (orderable t) xs xs

-- of a table of rows; d stands for a row past its end, and no answer depends on it
abbrev pub at_row : {F : Type 0} → List F → F → ℕ → F
at_row rows d k = slice_index_or rows k d

abbrev pub order_of : {F : Type 0} → (F → List F → List F → Bool) → List F → F → Option (List ℕ)
order_of t rows d = greedy (by_number t (at_row rows d)) (length rows) (numbers 0 rows) []

abbrev pub examinations_of : {F : Type 0} → (F → List F → List F → Bool) → List F → F → ℕ
examinations_of t rows d = examinations (by_number t (at_row rows d)) (length rows) (numbers 0 rows) []

abbrev pub conflict_of : {F : Type 0} → (F → List F → List F → Bool) → List F → F → List ℕ
conflict_of t rows d = conflict (by_number t (at_row rows d)) (numbers 0 rows)

-- some of the rows, that have no order, and that have one when any single one is left out
pub record IsConflict {F : Type 0} (t : F → List F → List F → Bool) (rows : List F) (d : F) (cs : List ℕ) : Type 0 where
  pub within : Part (numbers 0 rows) cs
  pub none : HasOrder t (map (at_row rows d) cs) → ⊥
  pub each : (x : ℕ) (r : List ℕ) → Pick x cs r → HasOrder t (map (at_row rows d) r)
