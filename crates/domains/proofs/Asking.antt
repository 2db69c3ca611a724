-- Whole questions: the general form of the duties, derived once from the single steps. Assumes nothing.
use Rattle.std.proofs.Common.{◌≡◌, ℕ, suc, ◌<◌, ◌≤◌, Bool, true, false, cond, ◌&&◌, ltb, leb, List, [], ◌∷◌, ◌++◌, length, get_or, None, Option, sym, ap, ◌∙◌, subst, subst₂, arith}
use Rattle.std.proofs.lemmas.Bool.Decides.{nat_tests}
use Rattle.std.proofs.lemmas.Bool.{cond-true, cond-false, and_from, le-leb, lt-ltb}
use Rattle.frames.specs.declared.row.Row.{Row}
use Rattle.frames.specs.Limits.{lawful}
use Rattle.shelf.specs.Folds.{every}
use Rattle.shelf.specs.Picks.{Perm}
use Rattle.shelf.specs.Times.{NoLater, AtMost}
use Rattle.shelf.proofs.Perms.{perm_front}
use Rattle.shelf.proofs.Times.{no_later_refl, no_later_trans, no_later_if, at_most_if}
use Rattle.streams.specs.Demands.{horizon}
use Rattle.domains.specs.declared.place.Place.{Place}
use Rattle.domains.specs.declared.place.Place.TheVariants.{Above, Below, Absent}
use Rattle.domains.specs.Asked.{picked, same, stance, standing, reply, asked, no_row}
use Rattle.domains.specs.Duties.{Duties}
use Rattle.domains.specs.Replies.{ReplyLaws, Lower, CallLaws}
use Rattle.domains.proofs.Replying.{reply_laws}

-- the elements at a place, by the place of each number
abbrev at_place : {F : Type 0} → Place → (ℕ → Place) → List F → List F
at_place p s rows = picked (λ i. same (s i) p) rows

module _ {F : Type 0} {answer : F → List F → List F → Option ℕ} (laws : ReplyLaws answer) (f : F) where
  over : (us : List F) (r : F) (es bs : List F) → answer f (r ∷ (us ++ es)) bs ≡ answer f (us ++ (r ∷ es)) bs
  over us r es bs = sym (laws.above_order f _ _ bs (perm_front r us es))

  under : (es vs : List F) (r : F) (bs : List F) → answer f es (r ∷ (vs ++ bs)) ≡ answer f es (vs ++ (r ∷ bs))
  under es vs r bs = sym (laws.below_order f es _ _ (perm_front r vs bs))

  -- the first frame goes from p down to q, and the others from es and bs to cs and ds
  step : (p q : Place) → Lower p q → (r : F) (us vs es bs cs ds : List F)
      → ((xs ys : List F) → NoLater (answer f (xs ++ es) (ys ++ bs)) (answer f (xs ++ cs) (ys ++ ds)))
      → NoLater (answer f (us ++ cond (same p Above) (r ∷ es) es) (vs ++ cond (same p Below) (r ∷ bs) bs)) (answer f (us ++ cond (same q Above) (r ∷ cs) cs) (vs ++ cond (same q Below) (r ∷ ds) ds))
  step Above Above h r us vs es bs cs ds go = subst₂ NoLater (over us r es (vs ++ bs)) (over us r cs (vs ++ ds)) (go (r ∷ us) vs)
  step Above Below h r us vs es bs cs ds go =
      subst₂ NoLater (over us r es (vs ++ bs)) (under (us ++ cs) vs r ds) (no_later_trans (answer f (r ∷ (us ++ es)) (vs ++ bs)) (answer f (us ++ es) (r ∷ (vs ++ bs))) (answer f (us ++ cs) (r ∷ (vs ++ ds))) (laws.lowered f r (us ++ es) (vs ++ bs)) (go us (r ∷ vs)))
  step Above Absent h r us vs es bs cs ds go =
      no_later_trans (answer f (us ++ (r ∷ es)) (vs ++ bs)) (answer f (us ++ es) (vs ++ bs)) (answer f (us ++ cs) (vs ++ ds)) (subst (λ (o : Option ℕ). NoLater o (answer f (us ++ es) (vs ++ bs))) (over us r es (vs ++ bs)) (laws.fewer_above f r (us ++ es) (vs ++ bs))) (go us vs)
  step Below Above h r us vs es bs cs ds go = absurd h
  step Below Below h r us vs es bs cs ds go = subst₂ NoLater (under (us ++ es) vs r bs) (under (us ++ cs) vs r ds) (go us (r ∷ vs))
  step Below Absent h r us vs es bs cs ds go =
      no_later_trans (answer f (us ++ es) (vs ++ (r ∷ bs))) (answer f (us ++ es) (vs ++ bs)) (answer f (us ++ cs) (vs ++ ds)) (subst (λ (o : Option ℕ). NoLater o (answer f (us ++ es) (vs ++ bs))) (under (us ++ es) vs r bs) (laws.fewer_below f r (us ++ es) (vs ++ bs))) (go us vs)
  step Absent Above h r us vs es bs cs ds go = absurd h
  step Absent Below h r us vs es bs cs ds go = absurd h
  step Absent Absent h r us vs es bs cs ds go = go us vs

  steps : (rows : List F) (s t : ℕ → Place) (us vs : List F) → ((i : ℕ) → Lower (s i) (t i))
      → NoLater (answer f (us ++ at_place Above s rows) (vs ++ at_place Below s rows)) (answer f (us ++ at_place Above t rows) (vs ++ at_place Below t rows))
  steps [] s t us vs low = no_later_refl _
  steps (r ∷ rows) s t us vs low =
      step (s 0) (t 0) (low 0) r us vs _ _ _ _ (λ xs ys. steps rows (λ i. s (suc i)) (λ i. t (suc i)) xs ys (λ i. low (suc i)))

module _ {D : Type 0} {count : D → ℕ} {cost : D → ℕ → ℕ → ℕ} {response : D → ℕ → Row → List Row → List Row → Option ℕ} (duties : Duties count cost response) (d : D) (k : ℕ) where
  same_sets : (rows rows' : List Row) (places places' : List Place) (f f' : ℕ)
      → length rows ≤ 96 → f < length rows → length rows' ≤ 96 → f' < length rows'
      → get_or rows f no_row ≡ get_or rows' f' no_row
      → Perm (standing Above rows places f) (standing Above rows' places' f')
      → Perm (standing Below rows places f) (standing Below rows' places' f')
      → asked (response d k) rows places f ≡ asked (response d k) rows' places' f'
  unfolding asked
  same_sets rows rows' places places' f f' few in_List few' in-list' frame above below =
      let laws = reply_laws duties d k in
      cond-true _ _ _ (and_from _ _ (le-leb _ _ few) (lt-ltb _ _ in_List))
      ∙ ap (λ r. reply (response d k) r (standing Above rows places f) (standing Below rows places f)) frame
      ∙ laws.above_order _ _ _ _ above ∙ laws.below_order _ _ _ _ below
      ∙ sym (cond-true _ _ _ (and_from _ _ (le-leb _ _ few') (lt-ltb _ _ in-list')))

  within : (rows : List Row) (places : List Place) (f : ℕ) → AtMost horizon (asked (response d k) rows places f)
  unfolding asked
  within rows places f = at_most_if (leb (length rows) 96 && ltb f (length rows)) horizon _ ((reply_laws duties d k).bounded _ _ _)

  lowered : (rows : List Row) (places after : List Place) (f : ℕ) → ((i : ℕ) → Lower (stance places f i) (stance after f i))
      → NoLater (asked (response d k) rows places f) (asked (response d k) rows after f)
  unfolding asked standing
  lowered rows places after f low =
      no_later_if (leb (length rows) 96 && ltb f (length rows)) (leb (length rows) 96 && ltb f (length rows)) _ _ (λ e. (e, steps (reply_laws duties d k) (get_or rows f no_row) rows (stance places f) (stance after f) [] [] low))

  pub call_laws : CallLaws (response d k)
  call_laws = record { same_sets = same_sets; bounded = within; lowered = lowered }

-- a domain that is not there
pub asked_mute : (response : Row → List Row → List Row → Option ℕ) (rows : List Row) (places : List Place) (f : ℕ) → ((r : Row) (us ls : List Row) → response r us ls ≡ None) → None ≡ asked response rows places f
unfolding asked reply
asked_mute response rows places f h =
    let none = h (get_or rows f no_row) (standing Above rows places f) (standing Below rows places f) in grind arith

-- when a question has no answer, and which answer it has
module _ (response : Row → List Row → List Row → Option ℕ) (rows : List Row) (places : List Place) (f : ℕ) where
  unasked : (leb (length rows) 96 && ltb f (length rows)) ≡ false → None ≡ asked response rows places f
  unfolding asked
  unasked e = sym (cond-false _ _ _ e)

  pub asked_long : 96 < length rows → None ≡ asked response rows places f
  asked_long h = unasked (grind (arith, nat_tests))

  pub asked_outside : length rows ≤ f → None ≡ asked response rows places f
  asked_outside h = unasked (grind (arith, nat_tests))

  abbrev own : Bool
  own = lawful (get_or rows f no_row)

  abbrev above : Bool
  above = every lawful (standing Above rows places f)

  abbrev below : Bool
  below = every lawful (standing Below rows places f)

  unlawful : (own && (above && below)) ≡ false → None ≡ asked response rows places f
  unfolding asked reply
  unlawful e = grind arith

  pub asked_unlawful : own ≡ false → None ≡ asked response rows places f
  asked_unlawful e = unlawful (grind arith)

  pub asked_unlawful_above : above ≡ false → None ≡ asked response rows places f
  asked_unlawful_above e = unlawful (grind arith)

  pub asked_unlawful_below : below ≡ false → None ≡ asked response rows places f
  asked_unlawful_below e = unlawful (grind arith)

  pub asked_is : length rows ≤ 96 → f < length rows → own ≡ true → above ≡ true → below ≡ true
      → response (get_or rows f no_row) (standing Above rows places f) (standing Below rows places f) ≡ asked response rows places f
  unfolding asked reply
  asked_is few in_List a b c = grind (arith, nat_tests)
