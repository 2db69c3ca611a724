use Rattle.std.proofs.Common.{◌≡◌, length}
use Rattle.packing.specs.Holds.{held}
use Rattle.plan.specs.Banks.{bank_of}
use Rattle.sheet.proofs.Entering.{Entered}
use Rattle.sheet.proofs.body.enter_all.Given as goal

abbrev pub invariant-loop-rest : goal.invariant-loop-rest
invariant-loop-rest g l =
    (l.draft.bank ≡ l.initial.draft.bank)
    × Entered (bank_of (g.B.Domain.count l.initial.draft.bank) (g.B.Domain.cost l.initial.draft.bank) (g.B.Domain.response l.initial.draft.bank)) (held l.initial.draft.tables) l.text l.rest (held l.draft.tables) l.line

abbrev pub decreases-loop-rest : goal.decreases-loop-rest
decreases-loop-rest g l = length l.rest
