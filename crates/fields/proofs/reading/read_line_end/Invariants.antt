use Rattle.fields.proofs.Fielding.{FieldsRead}
use Rattle.fields.proofs.reading.read_line_end.Given as goal

abbrev pub invariant-loop-i : goal.invariant-loop-i
invariant-loop-i g l = FieldsRead l.widths l.i l.values l.text l.rest
