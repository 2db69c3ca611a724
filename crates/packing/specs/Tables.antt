-- The list that a signal table holds. Assumes nothing.
use Rattle.std.specs.Prelude.{List}
use Rattle.lists.specs.Items.{items}
use Rattle.signals.specs.declared.signal.Entry.{Entry}
use Rattle.packing.specs.declared.table.SignalTable.{SignalTable}

abbrev pub listed : SignalTable → List Entry
listed t = items t.entries
