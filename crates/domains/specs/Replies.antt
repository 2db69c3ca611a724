-- What the duties come to for all rows, lawful or not, and for whole questions. Assumes nothing.
use Rattle.std.specs.Prelude.{◌≡◌, ℕ, ◌<◌, ◌≤◌, List, ◌∷◌, length, Option, slice_index_or}
use Rattle.frames.specs.declared.row.Row.{Row}
use Rattle.shelf.specs.Picks.{Perm}
use Rattle.shelf.specs.Times.{NoLater, AtMost}
use Rattle.streams.specs.Demands.{horizon}
use Rattle.domains.specs.declared.place.Place.{Place}
use Rattle.domains.specs.declared.place.Place.TheVariants.{Above, Below, Absent}
use Rattle.domains.specs.Asked.{stance, standing, asked, no_row}

-- answer f us ls: the response time of f with us above and ls below
pub record ReplyLaws {F : Type 0} (answer : F → List F → List F → Option ℕ) : Type 0 where
  pub above_order : (f : F) (us us' ls : List F) → Perm us us' → answer f us ls ≡ answer f us' ls
  pub below_order : (f : F) (us ls ls' : List F) → Perm ls ls' → answer f us ls ≡ answer f us ls'
  pub bounded : (f : F) (us ls : List F) → AtMost horizon (answer f us ls)
  pub fewer_above : (f x : F) (us ls : List F) → NoLater (answer f (x ∷ us) ls) (answer f us ls)
  pub fewer_below : (f x : F) (us ls : List F) → NoLater (answer f us (x ∷ ls)) (answer f us ls)
  pub lowered : (f x : F) (us ls : List F) → NoLater (answer f (x ∷ us) ls) (answer f us (x ∷ ls))

-- a frame goes from the first place to the second by being taken out, or moved from above to below, or stays
abbrev pub Lower : Place → Place → Type 0
Lower Above q = Unit {0}
Lower Below Above = ⊥
Lower Below Below = Unit {0}
Lower Below Absent = Unit {0}
Lower Absent Above = ⊥
Lower Absent Below = ⊥
Lower Absent Absent = Unit {0}

-- what holds of every two questions to one domain
pub record CallLaws (response : Row → List Row → List Row → Option ℕ) : Type 0 where
  -- the same record, with the same records above and the same below, each as often: whatever their numbers and order
  pub same_sets : (rows rows' : List Row) (places places' : List Place) (f f' : ℕ)
      → length rows ≤ 96 → f < length rows → length rows' ≤ 96 → f' < length rows'
      → slice_index_or rows f no_row ≡ slice_index_or rows' f' no_row
      → Perm (standing Above rows places f) (standing Above rows' places' f')
      → Perm (standing Below rows places f) (standing Below rows' places' f')
      → asked response rows places f ≡ asked response rows' places' f'
  pub bounded : (rows : List Row) (places : List Place) (f : ℕ) → AtMost horizon (asked response rows places f)
  -- frames taken out of either set, or moved from above to below
  pub lowered : (rows : List Row) (places after : List Place) (f : ℕ) → ((i : ℕ) → Lower (stance places f i) (stance after f i))
      → NoLater (asked response rows places f) (asked response rows after f)
