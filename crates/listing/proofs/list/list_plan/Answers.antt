use Rattle.std.proofs.Common.{◌≡◌, sym, subst, arith}
use Rattle.std.proofs.lemmas.Grind.{common_steps}
use Rattle.packing.specs.Holds.{held}
use Rattle.packing.proofs.Sounds.{to_sound}
use Rattle.plan.specs.Banks.{bank_of}
use Rattle.plan.specs.Closes.{ordered}
use Rattle.plan.specs.Subject.{Upheld}
use Rattle.listing.specs.Lines.{listing}
use Rattle.listing.specs.Tells.{Told}
use Rattle.listing.proofs.Telling.{all_told}
use Rattle.listing.proofs.list.list_plan.Goals as goal
use Rattle.listing.proofs.list.list_plan.Goals.{then-is_ok, else-is_ok}

pub returns-clause-tells : goal.returns-clause-tells
returns-clause-tells g c =
    let x = c.args.plan.now.bank in
    let m = bank_of (g.B.Domain.count x) (g.B.Domain.cost x) (g.B.Domain.response x) in
    let p = held c.args.plan.now.tables in
    let e : c.if-is_ok.listing.bytes.items ≡ listing m p (ordered m p) = grind (arith, common_steps) in
    subst (Told m p (ordered m p)) (sym e) (all_told m p (to_sound p c.args.plan.now.tables.ok) (ordered m p) (subst (Upheld m p) c.order-answer.ensures.stands c.order-answer.ensures.upheld))
