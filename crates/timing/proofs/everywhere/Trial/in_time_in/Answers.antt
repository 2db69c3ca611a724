use Rattle.std.proofs.Common.{◌≡◌, rules, tests}
use Rattle.timing.specs.Carried.{timely}
use Rattle.timing.specs.Everywhere.{response_in}
use Rattle.timing.specs.Places.{row_at, rows_above, rows_below}
use Rattle.timing.proofs.Telling.{told_response}
use Rattle.timing.proofs.everywhere.Trial.in_time_in.Goals as goal

-- by the answer of `response_in`, or by one to a table that says what the domain is told
pub returns-in-Some : goal.returns-in-Some
returns-in-Some g c =
    let trial = c.args.self.now in
    let rows = trial.frames.now.rows.now in
    let ps = trial.places.now in
    let f = c.args.f in
    let response = g.B.Domain.response trial.frames.now.bank.now in
    let said : c.in_time.result ≡ timely (response_in response c.args.k (row_at rows f) (rows_above rows ps f) (rows_below rows ps f)) c.in-Some.row.now.deadline = search (rules, told_response) in
    search (rules, tests)
