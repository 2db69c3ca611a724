-- The lines of a sheet that have put their signals into a plan, one more, and where they end. Assumes nothing.
use Rattle.std.proofs.Common.{◌≡◌, ◌≢◌, ℕ, ◌+◌, ◌≤◌, List, [], ◌∷◌, ◌++◌, length, refl, sym, ap, subst, ◌∙◌, arith, append_assoc, length-append, append-nil, None, Some, Option}
use Rattle.std.specs.List.{AllByRecursion}
use Rattle.signals.specs.declared.signal.Signal.{Signal}
use Rattle.packing.specs.Packings.{Packing}
use Rattle.plan.specs.Banks.{Bank}
use Rattle.domains.specs.Faults.{Refusal}
use Rattle.packing.specs.Choices.{choice}
use Rattle.plan.specs.declared.fault.PlanFault.{PlanFault}
use Rattle.plan.specs.Drafts.{chosen, entered, enter_says, unless}
use Rattle.plan.specs.Questions.{first_no, enter_questions}
use Rattle.plan.specs.Said.{unless_refused}
use Rattle.plan.specs.Said.Said.{gives, refuses}
use Rattle.sheet.specs.declared.fault.SheetFault.{SheetFault}
use Rattle.sheet.specs.Forms.{signal_form}
use Rattle.sheet.specs.Lines.{AtFault}
use Rattle.sheet.specs.Signals.{Named, Taken, PlanRefuses, SignalFault, signal_line, signal_lines}

all_push : {X : Type 0} (P : X → Type 0) (xs : List X) (y : X) → AllByRecursion P xs → P y → AllByRecursion P (xs ++ (y ∷ []))
all_push P [] y all at = (at, tt)
all_push P (x ∷ xs) y all at = (all.0, all_push P xs y all.1 at)

lines_push : (ss : List Signal) (s : Signal) (rest : List ℕ) → signal_lines (ss ++ (s ∷ [])) ++ rest ≡ signal_lines ss ++ (signal_line s ++ rest)
lines_push [] s rest = ap (λ t. t ++ rest) (append-nil (signal_line s))
lines_push (x ∷ ss) s rest =
    append_assoc (signal_line x) (signal_lines (ss ++ (s ∷ []))) rest ∙ ap (λ t. signal_line x ++ t) (lines_push ss s rest)
    ∙ sym (append_assoc (signal_line x) (signal_lines ss) (signal_line s ++ rest))

taken_push : (m : Bank) (p : Packing) (ss : List Signal) (s : Signal) (q : Packing) → Taken m p ss q → enter_says m.domains m.cost q s ≡ gives []
    → Taken m p (ss ++ (s ∷ [])) (entered m.domains m.cost q s)
taken_push m p [] s q t e = (subst (λ r. enter_says m.domains m.cost r s ≡ gives []) t e, ap (λ r. entered m.domains m.cost r s) t)
taken_push m p (x ∷ ss) s q t e = (t.0, taken_push m (entered m.domains m.cost p x) ss s q t.1 e)

-- each line has a byte at least
lines_long : (ss : List Signal) → length ss ≤ length (signal_lines ss)
lines_long [] = omega arith
lines_long (s ∷ ss) = let n = length-append (signal_line s) (signal_lines ss) in let h = lines_long ss in omega arith

-- a plan that refuses an enter stays as it was
pub refused_same : (domains : ℕ) (cost : ℕ → ℕ → ℕ) (p : Packing) (s : Signal) (f : Refusal) → enter_says domains cost p s ≡ refuses f → entered domains cost p s ≡ p
unfolding entered
refused_same domains cost p s f = by_answer (first_no (enter_questions domains cost p s))
  where
    by_answer : (o : Option PlanFault) → unless_refused [] o ≡ refuses f → unless o (chosen p s (choice cost p s)) p ≡ p
    by_answer None e = grind (arith, e)
    by_answer (Some x) e = refl

-- up to the text that is left, the lines have put their signals into the plan; the next has this number
pub record Entered (m : Bank) (p : Packing) (text rest : List ℕ) (q : Packing) (line : ℕ) : Type 0 where
  pub before : List Signal
  pub named : AllByRecursion Named before
  pub is : text ≡ signal_lines before ++ rest
  pub taken : Taken m p before q
  pub at : line ≡ 5 + length before

module _ (m : Bank) (p : Packing) (text : List ℕ) where
  pub entered_none : Entered m p text text p 5
  entered_none = record { before = []; named = tt; is = refl; taken = refl; at = refl }

  pub entered_more : (rest : List ℕ) (q : Packing) (line : ℕ) (s : Signal) (after : List ℕ) (r : Packing) → Entered m p text rest q line → Named s → rest ≡ signal_line s ++ after
      → enter_says m.domains m.cost q s ≡ gives [] → r ≡ entered m.domains m.cost q s → Entered m p text after r (line + 1)
  entered_more rest q line s after r h n e says new = record {
    before = h.before ++ (s ∷ []);
    named = all_push Named h.before s h.named n;
    is = h.is ∙ ap (λ t. signal_lines h.before ++ t) e ∙ sym (lines_push h.before s after);
    taken = subst (Taken m p (h.before ++ (s ∷ []))) (sym new) (taken_push m p h.before s q h.taken says);
    at = let l = length-append h.before (s ∷ []) in let a = h.at in omega arith;
  }

  -- the number of a line fits where the text is not too long
  pub entered_low : (rest : List ℕ) (q : Packing) (line : ℕ) → Entered m p text rest q line → line + length rest ≤ 5 + length text
  entered_low rest q line h =
      let l = ap length h.is ∙ length-append (signal_lines h.before) rest in let b = lines_long h.before in let a = h.at in omega arith

  pub entered_fault : (rest : List ℕ) (q : Packing) (line : ℕ) (e : SheetFault) → Entered m p text rest q line → rest ≢ [] → AtFault signal_form line (PlanRefuses m q line) rest e → SignalFault m p text e q
  entered_fault rest q line e h more fault = record {
    before = h.before;
    rest = rest;
    named = h.named;
    is = h.is;
    taken = h.taken;
    more = more;
    fault = subst (λ n. AtFault signal_form n (PlanRefuses m q n) rest e) h.at fault;
  }
