use Rattle.packing.specs.Sound.{sound}
use Rattle.packing.proofs.tables.Tables.new.Goals as goal

pub invariant_of-result : goal.invariant_of-result
unfolding sound
invariant_of-result c = record { ok = rw (c.new.ensures, c.new-2.ensures); kept = rw (c.new.ensures, c.new-2.ensures) }
