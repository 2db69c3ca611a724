use Rattle.std.proofs.Common.{◌≡◌, ◌*◌, ◌≤◌, length, filter}
use Rattle.std.specs.List.{flat_map, range_with_len}
use Rattle.packing.specs.Holds.{held}
use Rattle.plan.specs.Holds.{stands_of}
use Rattle.plan.specs.Stands.{among, in_conflict}
use Rattle.listing.specs.Lines.{conflict_line}
use Rattle.listing.proofs.list.list_conflict.Given as goal

abbrev pub invariant-loop-n : goal.invariant-loop-n
invariant-loop-n g l =
    let p = held l.plan.tables in
    let cs = in_conflict (stands_of p.frames l.plan.standing) in
    record {
      is : l.listing.bytes.items ≡ flat_map (conflict_line p) (filter (λ n. among n cs) (range_with_len 0 l.n));
      low : length l.listing.bytes.items ≤ 65 * l.n;
    }
