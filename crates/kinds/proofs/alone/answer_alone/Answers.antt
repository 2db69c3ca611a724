use Rattle.std.proofs.Common.{sym, subst}
use Rattle.std.proofs.lemmas.Bool.{cond-false, ne_eqb}
use Rattle.domains.proofs.Asking.{asked_mute}
use Rattle.std.specs.List.{AllByRecursion}
use Rattle.streams.specs.Demands.{Fit}
use Rattle.std.proofs.lemmas.List.Elements.{recursion_from_All}
use Rattle.kinds.specs.KindLaws.{Own}
use Rattle.kinds.proofs.Seeing.{seen_own}
use Rattle.kinds.proofs.alone.answer_alone.Goals as goal

pub returns-then-k-ne0 : goal.returns-then-k-ne0
returns-then-k-ne0 g c = asked_mute _ _ _ _ (λ r us ls. cond-false _ _ _ (ne_eqb _ _ c.if-k-ne0.true))

pub time-requires : goal.time-requires
time-requires g c =
    let d = c.args.kind.now in
    let streams = c.in_ok-look.look in
    record {
      own = subst (Own (g.K.Kind.price d)) (sym c.view.ensures.own) (seen_own g.met.K.Kind.kept d _ _ _ streams c.in_ok-look.ensures);
      under = subst (AllByRecursion Fit) (sym c.view.ensures.below) (recursion_from_All Fit _ streams.under);
      less = c.view.ensures.less;
    }
