use Rattle.domains.specs.Asked.{same, stance}
use Rattle.lists.specs.Items.{items}
use Rattle.kinds.proofs.Gathering.{Gathering}
use Rattle.kinds.proofs.gather.gather.Given as goal

abbrev pub invariant-loop-i : goal.invariant-loop-i
invariant-loop-i g l = Gathering (g.K.Kind.price l.kind) (λ i. same (stance l.question.places.now l.question.frame i) l.wanted) l.question.rows.now l.i (items l.found)
