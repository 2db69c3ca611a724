use Rattle.std.proofs.Common.{◌≡◌, ◌+◌, ◌*◌, ◌≤◌, ◌++◌, map, length, filter}
use Rattle.std.specs.List.{range_with_len}
use Rattle.packing.specs.Holds.{held}
use Rattle.plan.specs.Banks.{bank_of}
use Rattle.plan.specs.Closes.{response_says}
use Rattle.plan.specs.Holds.{stands_of}
use Rattle.timing.specs.Carried.{in_set}
use Rattle.listing.specs.Lines.{times_text, value_said}
use Rattle.listing.proofs.text.Listing.push_times.Given as goal

abbrev pub invariant-loop-k : goal.invariant-loop-k
invariant-loop-k g l =
    let x = l.plan.bank in
    let m = bank_of (g.B.Domain.count x) (g.B.Domain.cost x) (g.B.Domain.response x) in
    let p = held l.plan.tables in
    let ks = filter (λ k. in_set k l.set) (range_with_len 0 l.k) in
    let before = l.initial.self.bytes.items in
    record {
      is : l.self.bytes.items ≡ before ++ times_text (map (λ k. value_said (response_says m p (stands_of p.frames l.plan.standing) l.n k)) ks);
      low : length l.self.bytes.items ≤ length before + 9 * l.k;
    }
