use Rattle.std.proofs.Common.{◌<◌, map, length, set, get_or, take, drop, ap, ◌∙◌, arith, length-append, length-take, length-drop}
use Rattle.std.proofs.lemmas.List.{get_or_default, length-map}
use Rattle.std.proofs.lemmas.List.Edits.{map_over_more}
use Rattle.signals.specs.Names.{no_entry}
use Rattle.packing.specs.Packings.{lower}
use Rattle.packing.specs.Tables.{listed}
use Rattle.packing.proofs.table.SignalTable.close_up.Goals as goal

pub loop-i-preserved : goal.loop-i-preserved
loop-i-preserved c =
    let xs = listed c.args.self.now in
    let ys = listed c.loop-i.self in
    let i = c.loop-i.i in
    let read = get_or c.as_slice.result.now i no_entry in
    let within : i < length xs = omega arith in
    let there : i < length ys = omega (arith, ap length c.loop-i.invariant, length-append (map (lower c.args.f) (take i xs)) (drop i xs), length-map (take i xs) (lower c.args.f), length-take i xs, length-drop i xs) in
    c.set.ensures
    ∙ ap (λ n. set ys i (record { signal = read.signal; frame = n })) c.moved_up.ensures
    ∙ map_over_more (lower c.args.f) xs ys i read within c.loop-i.invariant (ap (λ es. get_or es i no_entry) c.as_slice.ensures ∙ get_or_default ys i _ _ there)
