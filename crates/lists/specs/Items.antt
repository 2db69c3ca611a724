-- The items of a list: its first cells. Assumes nothing.
use Rattle.std.specs.Prelude.{List, ℕ, take}
use Rattle.lists.specs.declared.list.ArrayList.{ArrayList}

abbrev pub items : {T : Type 0} {N : ℕ} → ArrayList T N → List T
items l = take l.count l.cells
