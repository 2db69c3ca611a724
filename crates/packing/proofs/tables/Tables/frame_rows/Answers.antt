use Rattle.std.proofs.Common.{length, sym, ap, ◌∙◌, subst, arith}
use Rattle.std.specs.List.{AllByRecursion}
use Rattle.frames.specs.Limits.{Lawful}
use Rattle.packing.specs.Holds.{held}
use Rattle.packing.proofs.Sounds.{to_sound, lawful_rows}
use Rattle.packing.proofs.tables.Tables.frame_rows.Goals as goal

pub returns : goal.returns
returns c =
    let t = c.args.self.now in
    let h = to_sound (held t) t.ok in
    let is = c.as_slice.ensures.value ∙ t.kept in
    record { is = is; few = omega (arith, ap length is, h.room); lawful = subst (AllByRecursion Lawful) (sym is) (lawful_rows (held t) h.frames) }
