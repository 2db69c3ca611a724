-- The first no of a list of questions, and what a call then does. Assumes nothing.
use Rattle.std.proofs.Common.{◌≡◌, ℕ, ◌<◌, ◌≤◌, Bool, true, false, cond, [], ◌∷◌, ◌++◌, length, List, is_some, Some, None, Option, MatchResult, sym, refl, ap, ◌∙◌, ap₂, arith}
use Rattle.std.specs.Option.{ok_or}
use Rattle.std.proofs.lemmas.Bool.{cond-true, cond-false, lt-ltb, le-ltb, not_from_true, not_from_false}
use Rattle.signals.specs.declared.signal.Entry.{Entry}
use Rattle.signals.specs.declared.signal.Signal.{Signal}
use Rattle.signals.specs.Limits.{LawfulSignal}
use Rattle.signals.specs.Names.{place_of}
use Rattle.signals.proofs.Finding.{not_found, found_within}
use Rattle.packing.specs.declared.choice.Choice.{Choice}
use Rattle.packing.specs.Choices.{choice}
use Rattle.packing.specs.Laws.{Placeable}
use Rattle.packing.specs.Packings.{Packing, placed, withdrawn, found_out}
use Rattle.packing.proofs.Offers.{choice_placeable}
use Rattle.packing.proofs.Sounds.{Sound}
use Rattle.packing.proofs.Weighty.{none_may}
use Rattle.plan.specs.declared.fault.PlanFault.{PlanFault}
use Rattle.plan.specs.declared.fault.PlanFault.TheVariants.{NameTaken, SignalsFull, FramesFull, NameUnknown}
use Rattle.plan.specs.Drafts.{chosen, unless, entered, enter_says}
use Rattle.plan.specs.Faults.{plan_told}
use Rattle.plan.specs.Questions.{Questions, first_no, figure_questions, place_questions, enter_questions, name_questions, Asked}
use Rattle.plan.specs.Said.Said.{refuses}

-- where a name stands among the signals, or the fault that it is unknown
pub looked_up : (name : ℕ) (ss es : List Entry) (o : Option ℕ) → es ≡ ss → o ≡ place_of name 0 es → MatchResult (ok_or o NameUnknown) (λ i. (place_of name 0 ss ≡ Some i) × (i < length ss)) (λ e. (e ≡ NameUnknown) × (place_of name 0 ss ≡ None))
looked_up name ss es o same found = go o (sym (found ∙ ap (place_of name 0) same))
  where
    go : (o : Option ℕ) → place_of name 0 ss ≡ o → MatchResult (ok_or o NameUnknown) (λ i. (place_of name 0 ss ≡ Some i) × (i < length ss)) (λ e. (e ≡ NameUnknown) × (place_of name 0 ss ≡ None))
    go None e = (refl, e)
    go (Some i) e = (e, omega (arith, (found_within name 0 i ss e).1))

-- the questions of a list come before those of another
abbrev or_else : Option PlanFault → Option PlanFault → Option PlanFault
or_else None o = o
or_else (Some f) o = Some f

or_else_cond : (t : Bool) (o : Option PlanFault) (f : PlanFault) (p : Option PlanFault) → cond t (or_else o p) (Some f) ≡ or_else (cond t o (Some f)) p
or_else_cond t o f p = grind arith

first_no_append : (xs ys : Questions) → first_no (xs ++ ys) ≡ or_else (first_no xs) (first_no ys)
first_no_append [] ys = refl
first_no_append (x ∷ xs) ys =
    ap (λ o. cond x.1 o (Some x.0)) (first_no_append xs ys) ∙ or_else_cond x.1 (first_no xs) x.0 (first_no ys)

no_after : (xs ys : Questions) (o : Option PlanFault) → first_no xs ≡ None → first_no ys ≡ o → first_no (xs ++ ys) ≡ o
no_after xs ys o e f = first_no_append xs ys ∙ ap (λ p. or_else p (first_no ys)) e ∙ f

module _ (domains : ℕ) (cost : ℕ → ℕ → ℕ) (p : Packing) (s : Signal) where
  pub no_figure : (count : ℕ) (f : PlanFault) → count ≡ domains → Some f ≡ first_no (figure_questions count s) → first_no (enter_questions domains cost p s) ≡ Some f
  unfolding enter_questions
  no_figure count f all e =
      first_no_append (figure_questions domains s) (place_questions cost p s) ∙ ap (λ o. or_else o (first_no (place_questions cost p s))) (ap (λ n. first_no (figure_questions n s)) (sym all) ∙ sym e)

  -- once the figures are asked about over as many domains, and the name is looked for among the signals
  module _ (count : ℕ) (all : count ≡ domains) (figures : None ≡ first_no (figure_questions count s)) (es : List Entry) (same : es ≡ p.signals) (o : Option ℕ) (found : o ≡ place_of s.name 0 es) where
    no_figures : first_no (figure_questions domains s) ≡ None
    no_figures = ap (λ n. first_no (figure_questions n s)) (sym all) ∙ sym figures

    named : is_some o ≡ is_some (place_of s.name 0 p.signals)
    named = ap is_some (found ∙ ap (place_of s.name 0) same)

    pub no_name : is_some o ≡ true → first_no (enter_questions domains cost p s) ≡ Some NameTaken
    unfolding enter_questions
    no_name e =
        no_after (figure_questions domains s) (place_questions cost p s) _ no_figures (cond-false _ _ _ (not_from_true _ (sym named ∙ e)))

    module _ (free : is_some o ≡ false) where
      unnamed : is_some (place_of s.name 0 p.signals) ≡ false
      unnamed = sym named ∙ free

      pub no_room : 256 ≤ length p.signals → first_no (enter_questions domains cost p s) ≡ Some SignalsFull
      unfolding enter_questions
      no_room l =
          no_after (figure_questions domains s) (place_questions cost p s) _ no_figures (cond-true _ _ _ (not_from_false _ unnamed) ∙ cond-false _ _ _ (le-ltb _ _ l))

      by_choice : (c : Option Choice) → length p.signals < 256 → choice cost p s ≡ c → first_no (enter_questions domains cost p s) ≡ cond (is_some c) None (Some FramesFull)
      unfolding enter_questions
      by_choice c l e =
          no_after (figure_questions domains s) (place_questions cost p s) _ no_figures (cond-true _ _ _ (not_from_false _ unnamed) ∙ cond-true _ _ _ (lt-ltb _ _ l) ∙ ap (λ d. cond (is_some d) None (Some FramesFull)) e)

      pub all_asked : Sound p → LawfulSignal s → length p.signals < 256 → (c : Option Choice) → choice cost p s ≡ c → Asked domains cost p s (ok_or c FramesFull)
      all_asked h l few None e = by_choice None few e
      all_asked h l few (Some c) e =
          (by_choice (Some c) few e, e, choice_placeable cost p s c h l few (not_found s.name 0 p.signals (let no = unnamed in grind arith)) e)

  -- what enter does
  pub enter_refused : (f : PlanFault) → first_no (enter_questions domains cost p s) ≡ Some f → entered domains cost p s ≡ p
  unfolding entered
  enter_refused f e = ap (λ o. unless o (chosen p s (choice cost p s)) p) e

  pub enter_done : (c : Choice) → first_no (enter_questions domains cost p s) ≡ None → choice cost p s ≡ Some c → entered domains cost p s ≡ placed p s c.frame
  unfolding entered
  enter_done c e f = ap₂ (λ o d. unless o (chosen p s d) p) e f

  -- no frame is missing where there is a choice
  no_choice : (o : Option Choice) → choice cost p s ≡ o → enter_says domains cost p s ≡ refuses (plan_told FramesFull) → choice cost p s ≡ None
  unfolding enter_questions
  no_choice None e r = e
  no_choice (Some c) e r = grind (arith, e, r)

  -- no frame may take a signal that is refused for want of one
  pub frames_full : ((k a b : ℕ) → a ≤ b → b ≤ 64 → cost k a ≤ cost k b) → Sound p → enter_says domains cost p s ≡ refuses (plan_told FramesFull) → (n : ℕ) → Placeable p s n → ⊥
  frames_full up h r = none_may cost up p s h (no_choice (choice cost p s) refl r)

-- what withdraw asks and does
module _ (p : Packing) (name : ℕ) where
  pub unknown : place_of name 0 p.signals ≡ None → first_no (name_questions p name) ≡ Some NameUnknown
  unfolding name_questions
  unknown e = ap (λ o. cond (is_some o) None (Some NameUnknown)) e

  pub known : (i : ℕ) → place_of name 0 p.signals ≡ Some i → first_no (name_questions p name) ≡ None
  unfolding name_questions
  known i e = ap (λ o. cond (is_some o) None (Some NameUnknown)) e

  pub withdrawn_by : (o : Option ℕ) → place_of name 0 p.signals ≡ o → withdrawn p name ≡ found_out p o
  unfolding withdrawn
  withdrawn_by o e = ap (found_out p) e
