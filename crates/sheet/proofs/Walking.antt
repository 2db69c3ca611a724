-- The lines of a sheet's signals are read as one list of signals, up to one end. Assumes nothing.
use Rattle.std.proofs.Common.{◌≡◌, ◌≢◌, ℕ, suc, ◌+◌, List, [], ◌∷◌, ◌++◌, length, refl, sym, ap, subst, ◌∙◌, arith, append_assoc, append-nil}
use Rattle.std.specs.Prelude.{Some, None, Option}
use Rattle.std.specs.List.{AllByRecursion}
use Rattle.std.proofs.Math.Path.{ap₂}
use Rattle.signals.specs.declared.signal.Signal.{Signal}
use Rattle.packing.specs.Packings.{Packing}
use Rattle.plan.specs.Banks.{Bank}
use Rattle.plan.specs.Drafts.{entered, enter_says}
use Rattle.plan.specs.Faults.{plan_told}
use Rattle.plan.specs.Said.Said.{gives, refuses}
use Rattle.sheet.specs.declared.fault.SheetFault.{SheetFault}
use Rattle.sheet.specs.Comes.{Entered, empty}
use Rattle.sheet.specs.Faults.{of_plan}
use Rattle.sheet.specs.Forms.{signal_form}
use Rattle.sheet.specs.Heads.{field}
use Rattle.sheet.specs.Lines.{AtFault}
use Rattle.sheet.specs.Signals.{Named, Taken, PlanRefuses, SignalFault, signal_figures, signal_line, signal_lines}
use Rattle.sheet.proofs.Lining.{line_apart, at_fault_one, at_fault_no}
use Rattle.sheet.proofs.Telling.{apart, plan_apart}

signal_of : List ℕ → Signal
signal_of vs = record { name = field vs 0; sender = field vs 1; size = field vs 2; period = field vs 3; deadline = field vs 4; set = field vs 5 }

signal_back : (s : Signal) → signal_of (signal_figures s) ≡ s
unfolding signal_of
signal_back s = refl

signal_apart : (s t : Signal) → signal_figures s ≡ signal_figures t → s ≡ t
signal_apart = apart signal_figures signal_of signal_back

module _ (m : Bank) where
  refused_one : (p : Packing) (n : ℕ) (vs : List ℕ) (e x : SheetFault) → PlanRefuses m p n vs e → PlanRefuses m p n vs x → e ≡ x
  refused_one p n vs e x h g =
      let same = signal_apart h.0 g.0 (sym h.2 ∙ g.2) in
      let told : refuses (plan_told h.1) ≡ refuses (plan_told g.1) = sym h.4 ∙ ap (enter_says m.domains m.cost p) same ∙ g.4 in
      h.3 ∙ ap (of_plan n) (plan_apart h.1 g.1 (cc told)) ∙ sym g.3

  -- what follows lines that have put their signals into the plan: nothing more, or line n is at fault
  abbrev pub End : Packing → ℕ → List ℕ → Option SheetFault → Type 0
  End p n rest None = rest ≡ []
  End p n rest (Some e) = (rest ≢ []) × AtFault signal_form n (PlanRefuses m p n) rest e

  end_one : (p : Packing) (n : ℕ) (rest : List ℕ) (o x : Option SheetFault) → End p n rest o → End p n rest x → o ≡ x
  end_one p n rest None None h g = refl
  end_one p n rest None (Some x) h g = absurd (g.0 h)
  end_one p n rest (Some e) None h g = absurd (h.0 g)
  end_one p n rest (Some e) (Some x) h g =
      ap Some (at_fault_one signal_form n rest (PlanRefuses m p n) (refused_one p n) e x h.1 g.1)

  -- a signal that is not refused is no end
  end_no : (p : Packing) (n : ℕ) (s : Signal) (rest : List ℕ) (o : Option SheetFault) → Named s → enter_says m.domains m.cost p s ≡ gives []
      → End p n (signal_line s ++ rest) o → ⊥
  end_no p n s rest None named says h = cc h
  end_no p n s rest (Some e) named says h =
      at_fault_no signal_form n (signal_line s ++ rest) (PlanRefuses m p n) e (signal_figures s) rest named refl
      (λ g.
      let same = signal_apart s g.0 g.2 in
      let other : gives [] ≡ refuses (plan_told g.1) = sym says ∙ ap (enter_says m.domains m.cost p) same ∙ g.4 in
      cc other)
      h.1

  -- the lines of a text from line n on are those of signals that are entered into the plan, up to an end
  pub record Walk (p : Packing) (n : ℕ) (text : List ℕ) (ss : List Signal) (q : Packing) (o : Option SheetFault) : Type 0 where
    rest : List ℕ
    named : AllByRecursion Named ss
    is : text ≡ signal_lines ss ++ rest
    taken : Taken m p ss q
    end : End q (n + length ss) rest o

  pub walk_whole : (text : List ℕ) (ss : List Signal) (q : Packing) → Entered m text ss q → Walk empty 5 text ss q None
  walk_whole text ss q h = record { rest = []; named = h.0; is = h.1 ∙ sym (append-nil (signal_lines ss)); taken = h.2; end = refl }

  pub walk_fault : (text : List ℕ) (e : SheetFault) (q : Packing) (h : SignalFault m empty text e q) → Walk empty 5 text h.before q (Some e)
  walk_fault text e q h = record { rest = h.rest; named = h.named; is = h.is; taken = h.taken; end = (h.more, h.fault) }

  module _ (p : Packing) (n : ℕ) (s : Signal) (ss : List Signal) (q : Packing) (o : Option SheetFault) where
    walk_text : (text : List ℕ) (h : Walk p n text (s ∷ ss) q o) → text ≡ signal_line s ++ (signal_lines ss ++ h.rest)
    walk_text text h = h.is ∙ append_assoc (signal_line s) (signal_lines ss) h.rest

    walk_tail : (text : List ℕ) (h : Walk p n text (s ∷ ss) q o) → Walk (entered m.domains m.cost p s) (suc n) (signal_lines ss ++ h.rest) ss q o
    walk_tail text h = record {
      rest = h.rest;
      named = h.named.1;
      is = refl;
      taken = h.taken.1;
      end = let next : n + length (s ∷ ss) ≡ suc n + length ss = omega arith in subst (λ k. End q k h.rest o) next h.end;
    }

    -- a signal more is no end
    walk_longer : (text : List ℕ) (u : Packing) (x : Option SheetFault) → Walk p n text (s ∷ ss) q o → Walk p n text [] u x → ⊥
    walk_longer text u x h g =
        let rest : g.rest ≡ signal_line s ++ (signal_lines ss ++ h.rest) = sym g.is ∙ walk_text text h in
        end_no p (n + 0) s (signal_lines ss ++ h.rest) x h.named.0 h.taken.0
        (subst (λ t. End p (n + 0) t x) rest (subst (λ r. End r (n + 0) g.rest x) g.taken g.end))

  pub walk_one : (ss ts : List Signal) (p : Packing) (n : ℕ) (text : List ℕ) (q u : Packing) (o x : Option SheetFault)
      → Walk p n text ss q o → Walk p n text ts u x → (ss ≡ ts) × (q ≡ u) × (o ≡ x)
  walk_one [] [] p n text q u o x h g =
      let packings = h.taken ∙ sym g.taken in
      let rests : h.rest ≡ g.rest = sym h.is ∙ g.is in
      (refl, packings, end_one u (n + 0) g.rest o x (subst (λ t. End u (n + 0) t o) rests (subst (λ r. End r (n + 0) h.rest o) packings h.end)) g.end)
  walk_one [] (t ∷ ts) p n text q u o x h g = absurd (walk_longer p n t ts u x text q o g h)
  walk_one (s ∷ ss) [] p n text q u o x h g = absurd (walk_longer p n s ss q o text u x h g)
  walk_one (s ∷ ss) (t ∷ ts) p n text q u o x h g =
      let same = line_apart signal_form (signal_figures t) (signal_figures s) _ _ g.named.0 h.named.0 (sym (walk_text p n t ts u x text g) ∙ walk_text p n s ss q o text h) in
      let signals = signal_apart t s same.0 in
      let g₁ = subst (λ y. Walk (entered m.domains m.cost p y) (suc n) (signal_lines ts ++ g.rest) ts u x) signals (walk_tail p n t ts u x text g) in
      let g₂ = subst (λ y. Walk (entered m.domains m.cost p s) (suc n) y ts u x) same.1 g₁ in
      let tails = walk_one ss ts (entered m.domains m.cost p s) (suc n) (signal_lines ss ++ h.rest) q u o x (walk_tail p n s ss q o text h) g₂ in
      (ap₂ (λ y ys. y ∷ ys) (sym signals) tails.0, tails.1, tails.2)
