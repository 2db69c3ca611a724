use Rattle.std.proofs.Common.{ℕ, ◌+◌, sym, ap, ◌∙◌, subst, add-zero}
use mathlib.Core.Path.{fun_ext}
use Rattle.shelf.specs.Smallest.{solution}
use Rattle.streams.specs.Demands.{demand, horizon}
use Rattle.gateway.specs.Gateways.{relayed, Relayed}
use Rattle.gateway.specs.Relays.{relayed_is}
use Rattle.gateway.proofs.gateway.relay.GatewayKind.time.Goals as goal

pub returns : goal.returns
unfolding relayed
returns c =
    let v = c.args.view.now in
    let above = v.above.streams.now in
    let is = c.settle.ensures.is ∙ ap (λ (rule : ℕ → ℕ). solution rule 1 horizon) (fun_ext (λ w. ap (λ n. v.own.cost + demand above n) (add-zero w))) in
    record { is = is; smallest = subst (Relayed v.own above) (sym is) (relayed_is v.own above v.below.now) }
