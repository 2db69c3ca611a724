use Rattle.std.proofs.Common.{◌≡◌, ℕ, ◌<◌, length, get_or}
use Rattle.packing.specs.Holds.{held}
use Rattle.plan.specs.Holds.{stands_of}
use Rattle.plan.specs.Stands.{in_order}
use Rattle.listing.proofs.list.by_priority.Given as goal

-- the frames below n are at their places
abbrev pub invariant-loop-n : goal.invariant-loop-n
invariant-loop-n g l =
    let o = in_order (stands_of (held l.plan.tables).frames l.plan.standing) in
    record {
      long : length l.places ≡ 96;
      placed : (q : ℕ) → q < length o → get_or o q 0 < l.n → get_or l.places q 0 ≡ get_or o q 0;
    }
