use Rattle.std.proofs.Common.{◌≡◌, ℕ, ◌<◌, length}
use Rattle.timing.proofs.Telling.{AtTold}
use Rattle.timing.proofs.everywhere.Trial.told.Given as goal

-- the table holds what the domain is told of the first i frames
abbrev pub invariant-loop-i : goal.invariant-loop-i
invariant-loop-i g l = (length l.table ≡ 96) × ((j : ℕ) → j < l.i → AtTold l.k l.self.frames.now.rows.now l.self.places.now l.table j)
