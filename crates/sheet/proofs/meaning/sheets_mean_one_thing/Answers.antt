use Rattle.sheet.proofs.Reading.{lawful_one, lawful_text, faulty_one, lawful_no_fault, comes_one}
use Rattle.sheet.proofs.Writing.{written_back}
use Rattle.sheet.proofs.meaning.sheets_mean_one_thing.Goals as goal

pub returns : goal.returns
returns c = record {
  read_back = written_back;
  one_reading = lawful_one;
  one_sheet = lawful_text;
  one_fault = faulty_one;
  no_fault = lawful_no_fault;
  one_outcome = comes_one;
}
