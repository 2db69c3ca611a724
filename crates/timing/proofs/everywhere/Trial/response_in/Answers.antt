use Rattle.std.proofs.Common.{◌≡◌, length, ◌∙◌, arith}
use Rattle.timing.proofs.Telling.{told_response}
use Rattle.timing.proofs.everywhere.Trial.response_in.Goals as goal

pub returns : goal.returns
returns g c =
    let trial = c.args.self.now in
    let wide : length c.told-table.result ≡ 96 = omega arith in
    c.answer.ensures ∙ told_response (g.B.Domain.response trial.frames.now.bank.now) c.args.k trial.frames.now.rows.now trial.places.now c.told-table.result c.args.f trial.long wide trial.frames.now.few c.requires c.told-table.ensures
