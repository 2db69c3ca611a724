use Rattle.std.proofs.Common.{refl}
use Rattle.fields.specs.Hex.{hex}
use Rattle.worked.proofs.Working.{figures}
use Rattle.worked_plans.proofs.Planning.{no_order, conflict, shared_answer, sole_answer, sole_alone, planned}
use Rattle.worked_plans.proofs.worked_plans_hold.Goals as goal

pub returns : goal.returns
unfolding hex
returns c = record {
  figures = figures;
  no_order = no_order;
  conflict = conflict;
  sheet = refl;
  frames = planned.0;
  shared_answer = shared_answer;
  sole_answer = sole_answer;
  sole_alone = sole_alone;
  ordered = planned.1;
  examinations = planned.2;
}
