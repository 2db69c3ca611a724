-- One element out of a list, and lists with the same elements. Assumes nothing.
use Rattle.std.specs.Prelude.{◌≡◌, List, [], ◌∷◌}

-- xs is r with x put in somewhere
pub data Pick {X : Type 0} (x : X) : List X → List X → Type 0 where
  here : {y : X} {r : List X} → x ≡ y → Pick x (y ∷ r) r
  there : {y : X} {xs r : List X} → Pick x xs r → Pick x (y ∷ xs) (y ∷ r)

-- ys has the elements of xs, each as often, in some order
pub data Perm {X : Type 0} : List X → List X → Type 0 where
  done : Perm [] []
  next : {x : X} {xs r ys : List X} → Pick x xs r → Perm r ys → Perm xs (x ∷ ys)

-- ys is xs with none or some taken out
pub data Part {X : Type 0} : List X → List X → Type 0 where
  whole : {xs : List X} → Part xs xs
  less : {x : X} {xs r ys : List X} → Pick x xs r → Part r ys → Part xs ys

-- x is in the list
abbrev pub Among : {X : Type 0} → X → List X → Type 0
Among {X} x xs = (rest : List X) × Pick x xs rest
