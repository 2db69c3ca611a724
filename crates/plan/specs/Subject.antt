-- Orders and conflicts in the words of the subject. Assumes nothing.
use Rattle.std.specs.Prelude.{◌≡◌, ℕ, ◌+◌, ◌*◌, ◌/◌, ◌<◌, ◌≤◌, true, List, [], ◌∷◌, ◌++◌, map, length, Some, Option}
use Rattle.std.specs.List.{AllByRecursion}
use Rattle.frames.specs.declared.row.Row.{Row}
use Rattle.timing.specs.Carried.{carried}
use Rattle.shelf.specs.Numbers.{numbers, without}
use Rattle.shelf.specs.Picks.{Pick, Perm, Part}
use Rattle.packing.specs.Packings.{Packing, row, rows}
use Rattle.timing.specs.Everywhere.{response_in}
use Rattle.timing.specs.Places.{row_at}
use Rattle.plan.specs.Banks.{Bank}
use Rattle.plan.specs.Closes.{order_says, identifier_at, identifier_says, response_says}
use Rattle.plan.specs.declared.fault.PlanFault.TheVariants.{NoOrder}
use Rattle.plan.specs.Faults.{plan_told}
use Rattle.plan.specs.Said.Said.{gives, refuses}
use Rattle.plan.specs.Stands.{Stands}
use Rattle.plan.specs.Stands.Stands.{nothing, order, conflict}

abbrev pub Iff : Type 0 → Type 0 → Type 0
Iff A B = (A → B) × (B → A)

-- a time, not above the deadline
pub record InTime (answer : Option ℕ) (deadline : ℕ) : Type 0 where
  pub time : ℕ
  pub is : answer ≡ Some time
  pub kept : time ≤ deadline

-- each frame is in time in every domain of its set, with those before it above and those after it below
abbrev pub MeetsAll : Bank → List Row → Type 0
MeetsAll m ys = (us : List Row) (f : Row) (ls : List Row) → ys ≡ us ++ (f ∷ ls) → (k : ℕ) → k < 4 → carried k f ≡ true → InTime (response_in m.response k f us ls) f.deadline

-- some order of the frames, each once, meets every deadline in every domain that carries them
abbrev pub HasOrder : Bank → List Row → Type 0
HasOrder m xs = (ys : List Row) × Perm xs ys × MeetsAll m ys

-- the rows of some frames by their numbers
abbrev pub rows_at : Packing → List ℕ → List Row
rows_at p ns = map (row_at (rows p)) ns

-- frame x is in time in every domain of its set, with some above and some below
abbrev pub TimelyFrame : Bank → Packing → ℕ → List ℕ → List ℕ → Type 0
TimelyFrame m p x us ls = (k : ℕ) → k < 4 → carried k (row_at (rows p) x) ≡ true → InTime (response_in m.response k (row_at (rows p) x) (rows_at p us) (rows_at p ls)) (row_at (rows p) x).deadline

-- places from the last to the first: us have none, bs have the last ones. The frames without one are examined in list order,
-- with the others without a place above and those placed below, and the first that is in time gets the place. The number
-- at the end counts the examinations: for each place those of the earlier frames, which are late there, and its own
pub data Picked (m : Bank) (p : Packing) : List ℕ → List ℕ → List ℕ → ℕ → Type 0 where
  full : {bs : List ℕ} → Picked m p [] bs bs 0
  next : {us bs o : List ℕ} {rest : ℕ} (x : ℕ) (earlier later : List ℕ) → us ≡ earlier ++ (x ∷ later)
      → AllByRecursion (λ g. TimelyFrame m p g (without g us) bs → ⊥) earlier → TimelyFrame m p x (without x us) bs
      → Picked m p (without x us) (x ∷ bs) o rest → Picked m p us bs o (length earlier + 1 + rest)

-- what a planner hears of frame n in domain k: the response time of the order, within the frame's deadline
pub record Heard (m : Bank) (p : Packing) (o us : List ℕ) (n : ℕ) (ls : List ℕ) (k : ℕ) : Type 0 where
  pub time : ℕ
  pub is : response_in m.response k (row p n) (rows_at p us) (rows_at p ls) ≡ Some time
  pub said : response_says m p (order o) n k ≡ gives (time ∷ [])
  pub kept : time ≤ (row p n).deadline

-- an order that stands is the one picked, with the examinations that order answers; it has each frame once, meets every
-- deadline, and is what the readings tell
pub record OrderStands (m : Bank) (p : Packing) (o : List ℕ) : Type 0 where
  pub examinations : ℕ
  pub picked : Picked m p (numbers 0 (rows p)) [] o examinations
  pub counted : order_says m p ≡ gives (length (rows p) ∷ examinations ∷ [])
  pub few : examinations ≤ length (rows p) * (length (rows p) + 1) / 2
  pub once : Perm (numbers 0 (rows p)) o
  pub meets : MeetsAll m (rows_at p o)
  pub identified : (us : List ℕ) (n : ℕ) (ls : List ℕ) → o ≡ us ++ (n ∷ ls) → identifier_says p (order o) n ≡ gives (identifier_at (length us) ∷ [])
  pub hears : (us : List ℕ) (n : ℕ) (ls : List ℕ) → o ≡ us ++ (n ∷ ls) → (k : ℕ) → k < 4 → carried k (row p n) ≡ true → Heard m p o us n ls k

-- the deletion filter: the frames xs in list order, each dropped from cs without which the rest still has no order
pub data Filtered (m : Bank) (p : Packing) : List ℕ → List ℕ → List ℕ → Type 0 where
  seen : {cs : List ℕ} → Filtered m p [] cs cs
  dropped : {x : ℕ} {xs cs out : List ℕ} → (HasOrder m (rows_at p (without x cs)) → ⊥) → Filtered m p xs (without x cs) out → Filtered m p (x ∷ xs) cs out
  kept : {x : ℕ} {xs cs out : List ℕ} → HasOrder m (rows_at p (without x cs)) → Filtered m p xs cs out → Filtered m p (x ∷ xs) cs out

-- a conflict that stands is what the filter leaves: some of the frames, that have no order, and have one when any single
-- one of them is left out
pub record ConflictStands (m : Bank) (p : Packing) (cs : List ℕ) : Type 0 where
  pub filtered : Filtered m p (numbers 0 (rows p)) (numbers 0 (rows p)) cs
  pub within : Part (numbers 0 (rows p)) cs
  pub none : HasOrder m (rows_at p cs) → ⊥
  pub each : (x : ℕ) (rest : List ℕ) → Pick x cs rest → HasOrder m (rows_at p rest)
  -- the refusal tells how many they are
  pub counted : order_says m p ≡ refuses (plan_told (NoOrder (length cs)))

-- what stands is right
abbrev pub Upheld : Bank → Packing → Stands → Type 0
Upheld m p nothing = Unit {0}
Upheld m p (order o) = OrderStands m p o
Upheld m p (conflict cs) = ConflictStands m p cs
