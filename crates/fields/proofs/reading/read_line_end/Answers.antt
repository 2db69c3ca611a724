use Rattle.std.proofs.Common.{rules}
use Rattle.fields.proofs.Fielding.{fields_one_more, fields_stop, fields_no_feed}
use Rattle.fields.proofs.reading.read_line_end.Goals as goal

pub returns-in_default : goal.returns-in_default
returns-in_default g c =
    let stop = fields_stop _ _ _ _ _ c.loop-i.invariant (search rules) c.in_default.ensures in
    search rules

pub loop-i-preserved : goal.loop-i-preserved
loop-i-preserved g c = fields_one_more _ _ _ _ _ c.loop-i.invariant (search rules) _ _ c.in-Some.ensures.0 c.in-Some.ensures.1

pub returns-in-None : goal.returns-in-None
returns-in-None g c =
    let stop = fields_no_feed _ _ _ _ _ c.loop-i.invariant (search rules) c.in-None.ensures in
    search rules
