-- The promise. Assumes nothing.
use Rattle.std.proofs.Common.{◌≡◌, ℕ, ◌^◌, ◌≤◌, Bool, true, false, cond, ◌&&◌, leb, List, [], ◌∷◌, ◌++◌, length, get_or, take, is_some, Some, None, Option, sym, refl, ap, ◌∙◌, subst, arith, pow_mono}
use Rattle.std.proofs.lemmas.Bool.Decides.{nat_tests}
use Rattle.std.proofs.lemmas.Bool.{and_parts, leb-true, ltb-true, not-true, false≢true}
use Rattle.domains.specs.Faults.{Refusal}
use Rattle.shelf.specs.Picks.{Among}
use Rattle.signals.specs.declared.signal.Signal.{Signal}
use Rattle.signals.specs.Limits.{LawfulSignal}
use Rattle.signals.specs.Names.{place_of}
use Rattle.signals.proofs.Finding.{not_found, found_within}
use Rattle.packing.specs.declared.choice.Choice.{Choice}
use Rattle.packing.specs.Choices.{choice}
use Rattle.packing.specs.Laws.{Placeable, Lightest}
use Rattle.packing.specs.Packings.{Packing, rows, withdrawn, found_out}
use Rattle.packing.proofs.Offers.{choice_placeable}
use Rattle.packing.proofs.Placing.{placed_sound}
use Rattle.packing.proofs.Sounds.{Sound}
use Rattle.packing.proofs.TakenOut.{taken_sound}
use Rattle.packing.proofs.Weighty.{lightest}
use Rattle.packing.proofs.Words.{well_packed}
use Rattle.timing.specs.Laws.{Laws}
use Rattle.plan.specs.declared.fault.PlanFault.{PlanFault}
use Rattle.plan.specs.declared.fault.PlanFault.TheVariants.{FramesFull, NoOrder}
use Rattle.plan.specs.Banks.{Bank, in_time}
use Rattle.plan.specs.Closes.{picked_order, left_conflict, order_answers}
use Rattle.plan.specs.Drafts.{chosen, unless, entered, enter_says, withdraw_says}
use Rattle.plan.specs.Faults.{plan_told}
use Rattle.plan.specs.Questions.{Questions, first_no, enter_questions}
use Rattle.plan.specs.Said.{Said, unless_refused}
use Rattle.plan.specs.Said.Said.{gives, refuses}
use Rattle.plan.specs.Stands.{Stands}
use Rattle.plan.specs.Stands.Stands.{nothing}
use Rattle.plan.specs.Subject.{Iff, HasOrder, Upheld}
use Rattle.plan.proofs.Asking.{frames_full, known, unknown, withdrawn_by}
use Rattle.plan.proofs.Upholding.{has_order, no_order, ordered_upheld}
use Rattle.runs.specs.declared.call.Call.{Call}
use Rattle.runs.specs.declared.call.Call.TheVariants.{Enter, Withdraw, Close, Reopen, Order, FrameOf, Record, Identifier, Response, Member, SignalCount, FrameCount, Weight}
use Rattle.runs.specs.Books.{Book, new, on, step, run, replies}
use Rattle.runs.specs.Lives.{after_call, lives}
use Rattle.runs.specs.Promise.{Refuses, Moment, Promise}
use Rattle.runs.specs.Replies.{Reply, of_change, of_order}
use Rattle.runs.specs.Replies.Reply.{says, not_allowed}
use Rattle.runs.proofs.Living.{signals_of, others, taken_others, placed_signals}
use Rattle.runs.proofs.Riding as R

-- what holds of a book, with the signals that live
pub record Good (m : Bank) (p : Packing) (s : Stands) (ss : List Signal) : Type 0 where
  pub sound : Sound p
  pub same : signals_of p.signals ≡ ss
  pub upheld : Upheld m p s

-- what a call said, where its state has it
abbrev said_of : Reply → Said
said_of (says k s) = s
said_of not_allowed = gives []

-- where no question is answered with no, each is answered with yes
abbrev AllYes : Questions → Type 0
AllYes [] = Unit {0}
AllYes (q ∷ qs) = (q.1 ≡ true) × AllYes qs

yes_first : (t : Bool) (o : Option PlanFault) (f : PlanFault) → cond t o (Some f) ≡ None → (t ≡ true) × (o ≡ None)
yes_first t o f e = grind arith

all_yes : (qs : Questions) → first_no qs ≡ None → AllYes qs
all_yes [] e = tt
all_yes (q ∷ qs) e = let p = yes_first q.1 (first_no qs) q.0 e in (p.0, all_yes qs p.1)

within : (low x high : ℕ) → (leb low x && leb x high) ≡ true → (low ≤ x) × (x ≤ high)
within low x high e = grind (arith, nat_tests)

module _ (m : Bank) (laws : Laws (in_time m)) (at_most : m.domains ≤ 4) (p : Packing) (ss : List Signal) where
  lawful : (s : Signal) → AllYes (enter_questions m.domains m.cost p s) → LawfulSignal s
  unfolding enter_questions
  lawful s y =
      let set = and_parts _ _ y.1.1.1.1.0 in
      let most : 2 ^ m.domains ≤ 16 = pow_mono at_most in
      record { from = leb-true _ _ y.0; sized = within _ _ _ y.1.0; paced = within _ _ _ y.1.1.0; timely = within _ _ _ y.1.1.1.0; named = (leb-true _ _ set.0, omega (arith, ltb-true _ _ set.1)) }

  may_take : (s : Signal) → Sound p → AllYes (enter_questions m.domains m.cost p s) → (c : Choice) → choice m.cost p s ≡ Some c → Placeable p s c.frame
  unfolding enter_questions
  may_take s h y c q =
      let free = not_found s.name 0 p.signals (let no = not-true _ y.1.1.1.1.1.0 in grind arith) in
      choice_placeable m.cost p s c h (lawful s y) (ltb-true _ _ y.1.1.1.1.1.1.0) free q

  enter_chosen : (s : Signal) → Good m p nothing ss → AllYes (enter_questions m.domains m.cost p s) → (o : Option Choice) → choice m.cost p s ≡ o → Good m (chosen p s o) nothing (ss ++ (s ∷ []))
  unfolding enter_questions
  enter_chosen s h y None q = absurd (false≢true (ap is_some (sym q) ∙ y.1.1.1.1.1.1.1.0))
  enter_chosen s h y (Some c) q =
      record {
        sound = placed_sound p s c.frame h.sound (may_take s h.sound y c q);
        same = placed_signals p s c.frame ∙ ap (λ l. l ++ (s ∷ [])) h.same;
        upheld = tt;
      }

  enter_good : (s : Signal) → Good m p nothing ss → (o : Option PlanFault) → first_no (enter_questions m.domains m.cost p s) ≡ o → Good m (unless o (chosen p s (choice m.cost p s)) p) nothing (after_call ss (Enter s) (of_change (unless_refused [] o)))
  enter_good s h None e =
      enter_chosen s h (all_yes (enter_questions m.domains m.cost p s) e) (choice m.cost p s) refl
  enter_good s h (Some f) e = h

  entered_good : (s : Signal) → Good m p nothing ss → Good m (entered m.domains m.cost p s) nothing (after_call ss (Enter s) (of_change (enter_says m.domains m.cost p s)))
  unfolding entered
  entered_good s h = enter_good s h (first_no (enter_questions m.domains m.cost p s)) refl

  module _ (up : (k a b : ℕ) → a ≤ b → b ≤ 64 → m.cost k a ≤ m.cost k b) (s : Signal) (h : Sound p) where
    chosen_lightest : AllYes (enter_questions m.domains m.cost p s) → (o : Option Choice) → choice m.cost p s ≡ o → Lightest m.cost p s (chosen p s o)
    unfolding enter_questions
    chosen_lightest y None q = absurd (false≢true (ap is_some (sym q) ∙ y.1.1.1.1.1.1.1.0))
    chosen_lightest y (Some c) q = lightest m.cost up p s h c q (may_take s h y c q)

    unrefused_lightest : (o : Option PlanFault) → first_no (enter_questions m.domains m.cost p s) ≡ o → of_change (unless_refused [] o) ≡ of_change (gives []) → Lightest m.cost p s (unless o (chosen p s (choice m.cost p s)) p)
    unrefused_lightest None e q = chosen_lightest (all_yes (enter_questions m.domains m.cost p s) e) (choice m.cost p s) refl
    unrefused_lightest (Some f) e q = absurd (grind arith)

    pub entered_lightest : (st : Stands) (b : Bool) → (on m p st b (Enter s)).reply ≡ of_change (gives []) → Lightest m.cost p s (on m p st b (Enter s)).after.packing
    unfolding entered
    entered_lightest st false q = unrefused_lightest (first_no (enter_questions m.domains m.cost p s)) refl q
    entered_lightest st true q = absurd (grind arith)

    pub entered_full : (st : Stands) (b : Bool) → (on m p st b (Enter s)).reply ≡ of_change (refuses (plan_told FramesFull)) → (n : ℕ) → Placeable p s n → ⊥
    entered_full st false q = frames_full m.domains m.cost p s up h (ap said_of q)
    entered_full st true q = absurd (grind arith)

  withdraw_good : (name : ℕ) → Good m p nothing ss → (o : Option ℕ) → place_of name 0 p.signals ≡ o → Good m (withdrawn p name) nothing (after_call ss (Withdraw name) (of_change (withdraw_says p name)))
  withdraw_good name h None e =
      subst (λ q. Good m q nothing (after_call ss (Withdraw name) (of_change (withdraw_says p name)))) (sym (withdrawn_by p name None e)) (subst (λ o. Good m p nothing (after_call ss (Withdraw name) (of_change (unless_refused [] o)))) (sym (unknown p name e)) h)
  withdraw_good name h (Some i) e =
      subst (λ q. Good m q nothing (after_call ss (Withdraw name) (of_change (withdraw_says p name)))) (sym (withdrawn_by p name (Some i) e)) (subst (λ o. Good m (found_out p (Some i)) nothing (after_call ss (Withdraw name) (of_change (unless_refused [] o)))) (sym (known p name i e)) (record {
        sound = taken_sound p i h.sound (omega (arith, (found_within name 0 i p.signals e).1));
        same = taken_others p name i h.sound.apart_names e ∙ ap (others name) h.same;
        upheld = tt;
      }))

  free : {s : Stands} → Good m p s ss → Good m p nothing ss
  free h = record { sound = h.sound; same = h.same; upheld = tt }

  pub turn_good : (s : Stands) (b : Bool) (c : Call) → Good m p s ss → Good m (on m p s b c).after.packing (on m p s b c).after.stands (after_call ss c (on m p s b c).reply)
  turn_good s false (Enter x) h = entered_good x (free h)
  turn_good s false (Withdraw name) h = withdraw_good name (free h) (place_of name 0 p.signals) refl
  turn_good s false Close h = free h
  turn_good s false Reopen h = free h
  turn_good s false Order h = free h
  turn_good s false (FrameOf name) h = free h
  turn_good s false (Record n) h = free h
  turn_good s false (Identifier n) h = free h
  turn_good s false (Response n k) h = free h
  turn_good s false (Member n) h = free h
  turn_good s false SignalCount h = free h
  turn_good s false FrameCount h = free h
  turn_good s false Weight h = free h
  turn_good s true (Enter x) h = h
  turn_good s true (Withdraw name) h = h
  turn_good s true Close h = h
  turn_good s true Reopen h = free h
  turn_good s true Order h = record { sound = h.sound; same = h.same; upheld = ordered_upheld m laws p h.sound.room }
  turn_good s true (FrameOf name) h = h
  turn_good s true (Record n) h = h
  turn_good s true (Identifier n) h = h
  turn_good s true (Response n k) h = h
  turn_good s true (Member n) h = h
  turn_good s true SignalCount h = h
  turn_good s true FrameCount h = h
  turn_good s true Weight h = h

  -- order refuses exactly when there is none
  order_iff : (o : Option (List ℕ)) → picked_order m p ≡ o → Iff (Refuses 11 (of_order (order_answers m p o))) (HasOrder m (rows p) → ⊥)
  order_iff None e =
      (λ r. no_order m laws p e, λ n. (plan_told (NoOrder (length (left_conflict m p))), refl, refl))
  order_iff (Some o) e = (λ r h. never r.0 r.1, λ n. absurd (n (has_order m laws p o e)))
    where
      never : (f : Refusal) → of_order (order_answers m p (Some o)) ≡ of_order (refuses f) → ⊥
      never f q = grind arith

  pub refused : (s : Stands) (b : Bool) → b ≡ true → Iff (Refuses 11 (on m p s b Order).reply) (HasOrder m (rows p) → ⊥)
  refused s true e = order_iff (picked_order m p) refl
  refused s false e = absurd (false≢true e)

module _ (m : Bank) (laws : Laws (in_time m)) (at_most : m.domains ≤ 4) where
  run_good : (b : Book) (ss : List Signal) (cs : List Call) → Good m b.packing b.stands ss → Good m (run m b cs).packing (run m b cs).stands (lives ss cs (replies m b cs))
  run_good b ss [] h = h
  run_good b ss (c ∷ cs) h =
      run_good (step m b c).after (after_call ss c (step m b c).reply) cs (turn_good m laws at_most b.packing ss b.stands b.closed c h)

  new_good : Good m new.packing new.stands []
  new_good = record {
    sound = record { few = omega arith; room = omega arith; apart_names = tt; signals = tt; frames = λ n l. absurd (let no : ⊥ = omega arith in no) };
    same = refl;
    upheld = tt;
  }

  moment : (b : Book) (cs : List Call) (said : List Reply) → Good m b.packing b.stands (lives [] cs said) → Moment m cs said b
  moment b cs said h =
      let well = well_packed b.packing h.sound in
      record {
        packed = well;
        stands = h.upheld;
        rides = λ s k. R.rides b.packing well s (subst (Among s) (sym h.same) k);
        only = λ n s c. subst (Among s) h.same (R.only b.packing well n s c);
        reaches = λ o e s k. R.reaches b.packing well m o (subst (Upheld m b.packing) e h.upheld) s (subst (Among s) (sym h.same) k);
      }

  said_before : (b : Book) (before after : List Call) → take (length before) (replies m b (before ++ after)) ≡ replies m b before
  said_before b [] after = refl
  said_before b (c ∷ before) after = ap (λ l. (step m b c).reply ∷ l) (said_before (step m b c).after before after)

  said_at : (b : Book) (before : List Call) (c : Call) (after : List Call) → get_or (replies m b (before ++ (c ∷ after))) (length before) not_allowed ≡ (step m (run m b before) c).reply
  said_at b [] c after = refl
  said_at b (x ∷ before) c after = said_at (step m b x).after before c after

  run_one : (b : Book) (before : List Call) (c : Call) → run m b (before ++ (c ∷ [])) ≡ (step m (run m b before) c).after
  run_one b [] c = refl
  run_one b (x ∷ before) c = run_one (step m b x).after before c

  replied : (calls before : List Call) (c : Call) (after : List Call) (said : List Reply) → said ≡ replies m new calls → calls ≡ before ++ (c ∷ after) → get_or said (length before) not_allowed ≡ (step m (run m new before) c).reply
  replied calls before c after said f q = ap (λ l. get_or l (length before) not_allowed) (f ∙ ap (replies m new) q) ∙ said_at new before c after

  pub promised : ((k a b : ℕ) → a ≤ b → b ≤ 64 → m.cost k a ≤ m.cost k b) → (calls : List Call) (plan : Book) (said : List Reply) → plan ≡ run m new calls → said ≡ replies m new calls → Promise m calls plan said
  promised up calls plan said e f = record {
    plan_is = e;
    replies_are = f;
    lightest = λ before after s q ok.
        let b = run m new before in
        subst (λ (c : Book). Lightest m.cost b.packing s c.packing) (sym (run_one new before (Enter s))) (entered_lightest m laws at_most b.packing [] up s (run_good new [] before new_good).sound b.stands b.closed (sym (replied calls before (Enter s) after said f q) ∙ ok));
    full = λ before after s q no.
        let b = run m new before in
        entered_full m laws at_most b.packing [] up s (run_good new [] before new_good).sound b.stands b.closed (sym (replied calls before (Enter s) after said f q) ∙ no);
    refused = λ before after q shut.
        let b = run m new before in
        subst (λ (r : Reply). Iff (Refuses 11 r) (HasOrder m (rows b.packing) → ⊥)) (sym (replied calls before Order after said f q)) (refused m laws at_most b.packing [] b.stands b.closed shut);
    moments = λ before after q.
        let b = run m new before in
        let s : take (length before) said ≡ replies m new before = ap (take (length before)) (f ∙ ap (replies m new) q) ∙ said_before new before after in
        subst (λ rs. Moment m before rs b) (sym s) (moment b before (replies m new before) (run_good new [] before new_good));
  }
