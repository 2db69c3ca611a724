-- In time in every domain of a frame's set. Assumes nothing.
use Rattle.std.specs.Prelude.{ℕ, Bool, not, ◌||◌, List, [], ◌∷◌, filter, Option}
use Rattle.frames.specs.declared.row.Row.{Row}
use Rattle.timing.specs.Carried.{carried}
use Rattle.shelf.specs.Folds.{every}
use Rattle.domains.specs.Asked.{reply}
use Rattle.timing.specs.Carried.{timely}

-- what domain k answers for f: it is told of the frames that it carries, and of no others
abbrev pub response_in : (ℕ → Row → List Row → List Row → Option ℕ) → ℕ → Row → List Row → List Row → Option ℕ
response_in response k f us ls = reply (response k) f (filter (carried k) us) (filter (carried k) ls)

-- where domain k carries f, f is in time there
abbrev pub in_domain : (ℕ → Row → List Row → List Row → Option ℕ) → ℕ → Row → List Row → List Row → Bool
in_domain response k f us ls = not (carried k f) || timely (response_in response k f us ls) f.deadline

-- the numbers that a domain can have
abbrev pub four : List ℕ
four = 0 ∷ 1 ∷ 2 ∷ 3 ∷ []

-- f is in time in every domain of its set, with us above and ls below
unfoldable pub everywhere : (ℕ → Row → List Row → List Row → Option ℕ) → Row → List Row → List Row → Bool
everywhere response f us ls = every (λ k. in_domain response k f us ls) four
