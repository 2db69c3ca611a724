-- The packing that the tables hold. Assumes nothing.
use Rattle.std.specs.Prelude.{length}
use Rattle.packing.specs.declared.tables.Tables.{Tables}
use Rattle.packing.specs.Packings.{Packing, packed}
use Rattle.packing.specs.Tables.{listed}

abbrev pub held : Tables → Packing
held t = packed (listed t.signals) (length t.rows.items)
