-- Signals by their names. Assumes nothing.
use Rattle.std.specs.Prelude.{ℕ, List, map, Option, ◌==◌}
use Rattle.std.specs.List.{position_from}
use Rattle.signals.specs.declared.signal.Entry.{Entry}

-- the place of the first signal that has the name, counted from i
abbrev pub place_of : ℕ → ℕ → List Entry → Option ℕ
place_of name i es = position_from (λ e. e.signal.name == name) i es

abbrev pub names : List Entry → List ℕ
names es = map (λ e. e.signal.name) es

-- what is read past the end of a list
abbrev pub no_entry : Entry
no_entry = record { signal = record { name = 0; sender = 0; size = 0; period = 0; deadline = 0; set = 0 }; frame = 0 }
