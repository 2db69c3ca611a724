use Rattle.std.proofs.Common.{ap, ◌∙◌, arith}
use Rattle.weights.specs.Weights.{row_weight}
use Rattle.packing.specs.Holds.{held}
use Rattle.packing.proofs.Offers.{no_room, opens}
use Rattle.packing.proofs.Placing.{room_past}
use Rattle.packing.proofs.Sounds.{to_sound}
use Rattle.packing.proofs.choose.Entrant.open_growth.Goals as goal

pub returns-then-n-ge-MAX_FRAMES : goal.returns-then-n-ge-MAX_FRAMES
returns-then-n-ge-MAX_FRAMES g c = no_room _ _ _ _ (omega (arith, c.requires)) c.if-n-ge-MAX_FRAMES.true

pub row_with-requires : goal.row_with-requires
row_with-requires g c =
    let t = c.args.self.now.tables.now in
    room_past (held t) c.args.n _ (to_sound _ t.ok) c.args.self.now.lawful (omega (arith, c.requires))

pub returns : goal.returns
returns g c =
    opens _ _ _ _ (omega (arith, c.requires)) c.if-n-ge-MAX_FRAMES.false _ (c.row_weight.ensures.is ∙ ap (row_weight (g.D.Domain.cost c.args.self.now.bank.now)) c.row_with.ensures.is)
