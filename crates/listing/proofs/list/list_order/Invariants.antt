use Rattle.std.proofs.Common.{◌≡◌, ◌*◌, ◌≤◌, length, take}
use Rattle.std.specs.List.{flat_map}
use Rattle.packing.specs.Holds.{held}
use Rattle.plan.specs.Banks.{bank_of}
use Rattle.plan.specs.Holds.{stands_of}
use Rattle.listing.specs.Lines.{order_line}
use Rattle.listing.proofs.list.list_order.Given as goal

abbrev pub invariant-loop-n : goal.invariant-loop-n
invariant-loop-n g l =
    let x = l.plan.bank in
    let m = bank_of (g.B.Domain.count x) (g.B.Domain.cost x) (g.B.Domain.response x) in
    let p = held l.plan.tables in
    record {
      is : l.listing.bytes.items ≡ flat_map (order_line m p (stands_of p.frames l.plan.standing)) (take l.n-index l.n-items);
      low : length l.listing.bytes.items ≤ 65 * l.n-index;
    }
