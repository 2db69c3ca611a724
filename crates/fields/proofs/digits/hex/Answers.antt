use Rattle.std.proofs.Common.{◌≡◌, ◌∙◌, rules, arith}
use Rattle.fields.proofs.Hexing.{hex_written}
use Rattle.fields.specs.Hex.{hex}
use Rattle.fields.proofs.digits.hex.Goals as goal

pub loop-i-preserved : goal.loop-i-preserved
loop-i-preserved g c = (
  search rules,
  hex_written c.loop-i.i c.loop-i.rest c.digit.result c.loop-i.text (omega arith) (omega arith) (search rules) ∙ c.loop-i.invariant.1,
)

pub returns : goal.returns
unfolding hex
returns g c =
    let done : c.loop-i.i ≡ 0 = omega arith in
    rw done at c.loop-i.invariant.1
