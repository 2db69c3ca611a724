use Rattle.std.proofs.Common.{refl, sym, ◌∙◌}
use Rattle.fields.proofs.Fielding.{fields_apart, line_end_unique}
use Rattle.fields.proofs.Hexing.{hex_apart, hex_length}
use Rattle.fields.proofs.meaning.fields_mean_one_thing.Goals as goal

pub returns : goal.returns
returns c = record {
  exact = hex_length;
  one_number = hex_apart;
  one_list = fields_apart;
  read_back = λ ws vs rest fit. (fit, refl);
  one_text = λ ws s t read h g. h.1 ∙ sym g.1;
  one_reading = line_end_unique;
}
