-- Which signals ride in a frame. Assumes nothing.
use Rattle.std.specs.Prelude.{ℕ, Bool, List, map, filter, ◌==◌, nat_eq}
use Rattle.std.specs.List.{list_any}
use Rattle.signals.specs.declared.signal.Signal.{Signal}
use Rattle.signals.specs.declared.signal.Entry.{Entry}

-- the signals of frame n, in order of entry
unfoldable pub riders : ℕ → List Entry → List Signal
riders n es = map (λ e. e.signal) (filter (λ e. nat_eq e.frame n) es)

-- whether there is one
abbrev pub any_in : ℕ → List Entry → Bool
any_in n es = list_any (λ e. e.frame == n) es
