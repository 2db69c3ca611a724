use Rattle.packing.specs.Holds.{held}
use Rattle.packing.proofs.Keeping.{put_in}
use Rattle.packing.proofs.Placing.{room_at}
use Rattle.packing.proofs.Sounds.{to_sound}
use Rattle.packing.proofs.tables.Tables.place.Goals as goal

pub row_with-row-requires : goal.row_with-row-requires
row_with-row-requires c =
    room_at (held c.args.self.now) c.args.signal c.args.n (to_sound _ c.args.self.now.ok) c.requires

-- the term stands twice: a lemma on the step of the push would refuse one more step by its type, and not by a fact
pub invariant_of-self : goal.invariant_of-self
invariant_of-self c =
    let k = put_in c.args.self.now c.args.signal c.args.n c.requires _ _ _ c.push.ensures c.row_with-row.ensures.is c.put.ensures.old c.put.ensures.next in
    record { ok = k.ok; kept = k.kept }

pub returns : goal.returns
returns c =
    (put_in c.args.self.now c.args.signal c.args.n c.requires _ _ _ c.push.ensures c.row_with-row.ensures.is c.put.ensures.old c.put.ensures.next).is
