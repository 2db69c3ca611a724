use Rattle.std.proofs.Common.{◌≤◌, length, rules, ap}
use Rattle.std.proofs.lemmas.Result.{err_from_is_err_and}
use Rattle.sheet.specs.Comes.Faulty.{long, head}
use Rattle.sheet.proofs.Sheeting.{bank_short, come}
use Rattle.sheet.proofs.run.list_sheet.Goals as goal

pub returns-then-sheet-gt-LONGEST_SHEET : goal.returns-then-sheet-gt-LONGEST_SHEET
returns-then-sheet-gt-LONGEST_SHEET c = rw c.whole.ensures (long (search rules))

pub returns-in_err-bank : goal.returns-in_err-bank
returns-in_err-bank c =
    let p = err_from_is_err_and c.from_residual.result c.from_residual.ensures.1 in
    rw (p.1, p.2) (head (search rules) c.in_err-bank.ensures)

pub list_lines-requires : goal.list_lines-requires
list_lines-requires c = let l = bank_short c.in_ok-bank.bank c.in_ok-bank.text.now in let e = ap length c.in_ok-bank.ensures in search rules

pub returns : goal.returns
returns c =
    let short : length c.args.sheet.now ≤ 16384 = search rules in
    come c.args.sheet.now c.in_ok-bank.bank c.in_ok-bank.text.now short c.in_ok-bank.ensures c.list_lines.result c.list_lines.ensures
