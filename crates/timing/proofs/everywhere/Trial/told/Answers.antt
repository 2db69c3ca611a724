use Rattle.std.proofs.Common.{length-set, refl, ◌∙◌, arith}
use Rattle.timing.proofs.Telling.{told_more}
use Rattle.timing.proofs.everywhere.Trial.told.Goals as goal

pub loop-i-init : goal.loop-i-init
loop-i-init g c = (refl, λ j l. absurd (omega arith))

pub loop-i-preserved : goal.loop-i-preserved
loop-i-preserved g c =
    let trial = c.args.self.now in
    (length-set c.loop-i.table c.loop-i.i _ ∙ c.loop-i.invariant.0, told_more c.args.k trial.frames.now.rows.now trial.places.now c.loop-i.table c.loop-i.i c.told_place.result (omega (arith, trial.frames.now.few, c.loop-i.invariant.0)) (c.told_place.ensures c.loop-i-test.true) c.loop-i.invariant.1)

pub returns : goal.returns
returns g c = λ j l. c.loop-i.invariant.1 j (omega arith)
