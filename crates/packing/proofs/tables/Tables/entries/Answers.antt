use Rattle.packing.proofs.Words.{held_packed}
use Rattle.packing.proofs.tables.Tables.entries.Goals as goal

pub returns-clause-packed : goal.returns-clause-packed
returns-clause-packed c = held_packed c.args.self.now
