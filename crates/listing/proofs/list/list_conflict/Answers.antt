use Rattle.std.proofs.Common.{◌≡◌, ◌++◌, Bool, ℕ, true, false, length, filter, sym, ap, ◌∙◌, arith}
use Rattle.std.specs.List.{flat_map, range_with_len}
use Rattle.packing.specs.Holds.{held}
use Rattle.packing.proofs.Sounds.{to_sound}
use Rattle.plan.specs.Banks.{bank_of}
use Rattle.plan.specs.Holds.{stands_of}
use Rattle.plan.specs.Stands.{among, in_conflict}
use Rattle.listing.specs.Lines.{conflict_line}
use Rattle.listing.proofs.Clashing.{listed_all, member_read, line_in, line_out}
use Rattle.listing.proofs.list.list_conflict.Goals as goal
use Rattle.listing.proofs.list.list_conflict.Goals.{then-unwrap_or, else-unwrap_or}

pub push_conflict_line-requires-clause-room : goal.push_conflict_line-requires-clause-room
push_conflict_line-requires-clause-room g c =
    omega (arith, (to_sound (held c.args.plan.now.tables) c.args.plan.now.tables.ok).room)

pub loop-n-preserved : goal.loop-n-preserved
loop-n-preserved g c =
    let x = c.args.plan.now.bank in
    let m = bank_of (g.B.Domain.count x) (g.B.Domain.cost x) (g.B.Domain.response x) in
    let p = held c.args.plan.now.tables in
    let st = stands_of p.frames c.args.plan.now.standing in
    let n = c.loop-n.n in
    let q : ℕ → Bool = λ n. among n (in_conflict st) in
    let read = member_read m p st c.requires n (omega (arith, c.loop-n-test.true, c.frame_count-n-end.ensures)) c.in_conflict.result c.in_conflict.ensures in
    elim c.if-unwrap_or.branch [
      | then-unwrap_or w ↦
          let e : q n ≡ true = cc (read, w.if-unwrap_or.ensures) in
          record {
            is = ap (λ s. s.bytes.items) w.listing-is ∙ w.push_conflict_line.ensures.is ∙ ap (λ l. l ++ conflict_line p n) c.loop-n.invariant.is ∙ sym (line_in (conflict_line p) q n e);
            low = omega (arith, ap (λ s. length s.bytes.items) w.listing-is);
          }
      | else-unwrap_or w ↦
          let e : q n ≡ false = cc (read, w.if-unwrap_or.ensures) in
          record {
            is = ap (λ s. s.bytes.items) w.listing-is ∙ c.loop-n.invariant.is ∙ sym (line_out (conflict_line p) q n e);
            low = omega (arith, ap (λ s. length s.bytes.items) w.listing-is);
          }
    ]

pub returns : goal.returns
returns g c =
    let x = c.args.plan.now.bank in
    let m = bank_of (g.B.Domain.count x) (g.B.Domain.cost x) (g.B.Domain.response x) in
    let p = held c.args.plan.now.tables in
    let st = stands_of p.frames c.args.plan.now.standing in
    let all : c.loop-n.n ≡ p.frames = omega (arith, c.loop-n-test.false, c.loop-n.auto.n-end, c.frame_count-n-end.ensures) in
    c.loop-n.invariant.is ∙ ap (λ k. flat_map (conflict_line p) (filter (λ n. among n (in_conflict st)) (range_with_len 0 k))) all ∙ listed_all m p st c.requires
