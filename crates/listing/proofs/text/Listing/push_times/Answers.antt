use Rattle.std.proofs.Common.{◌≡◌, ◌∷◌, ◌++◌, ℕ, true, false, length, ap, ◌∙◌, arith}
use Rattle.fields.specs.Hex.{hex}
use Rattle.packing.specs.Holds.{held}
use Rattle.plan.specs.Banks.{bank_of}
use Rattle.plan.specs.Closes.{response_says}
use Rattle.plan.specs.Holds.{stands_of}
use Rattle.timing.specs.Carried.{in_set}
use Rattle.listing.specs.Lines.{value_said}
use Rattle.listing.proofs.Writing.{value_is, time_in, time_out}
use Rattle.listing.proofs.text.Listing.push_times.Goals as goal
use Rattle.listing.proofs.text.Listing.push_times.Goals.{then-carries, else-carries}

pub loop-k-preserved : goal.loop-k-preserved
loop-k-preserved g c =
    let x = c.args.plan.now.bank in
    let m = bank_of (g.B.Domain.count x) (g.B.Domain.cost x) (g.B.Domain.response x) in
    let p = held c.args.plan.now.tables in
    let st = stands_of p.frames c.args.plan.now.standing in
    let f : ℕ → ℕ = λ k. value_said (response_says m p st c.args.n k) in
    let k = c.loop-k.k in
    let set = c.args.set in
    let old = c.args.self.now.bytes.items in
    let now = c.loop-k.self.bytes.items in
    elim c.if-carries.branch [
      | then-carries w ↦
          let e : in_set k set ≡ true = cc in
          let v : w.unwrap_or.result ≡ f k = w.unwrap_or.ensures ∙ value_is w.response.result (response_says m p st c.args.n k) w.response.ensures in
          record {
            is = ap (λ s. s.bytes.items) w.self-is ∙ w.push_field.ensures.is ∙ ap (λ t. now ++ (32 ∷ hex 8 t)) v ∙ time_in f set k old now c.loop-k.invariant.is e;
            low = omega (arith, ap (λ s. length s.bytes.items) w.self-is);
          }
      | else-carries w ↦
          let e : in_set k set ≡ false = cc in
          record {
            is = ap (λ s. s.bytes.items) w.self-is ∙ time_out f set k old now c.loop-k.invariant.is e;
            low = omega (arith, ap (λ s. length s.bytes.items) w.self-is);
          }
    ]
