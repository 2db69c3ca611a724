-- The signals of a frame: one more, one out, none. Assumes nothing.
use Rattle.std.proofs.Common.{◌≡◌, ℕ, suc, ◌+◌, ◌<◌, true, false, eqb, List, [], ◌∷◌, ◌++◌, map, length, get_or, take, drop, filter, sym, refl, ap, ◌∙◌, subst, ⊎_elim, drop-cons, arith}
use Rattle.std.proofs.lemmas.Bool.Decides.{nat_tests}
use Rattle.std.specs.List.{remove, AllByRecursion}
use Rattle.std.proofs.lemmas.List.Elements.{filter-append}
use Rattle.std.proofs.ByRecursion.{All-weaker}
use Rattle.std.proofs.lemmas.List.{map-append, append-nil, take-append-drop, take_more}
use Rattle.std.proofs.lemmas.Bool.{eq-eqb, or_left, or_right, cases_eq}
use Rattle.signals.specs.declared.signal.Signal.{Signal}
use Rattle.signals.specs.declared.signal.Entry.{Entry}
use Rattle.signals.specs.Names.{no_entry}
use Rattle.signals.specs.Riders.{riders, any_in}

pub split_at : {A : Type 0} (xs : List A) (i : ℕ) (d : A) → i < length xs → xs ≡ take i xs ++ (get_or xs i d ∷ drop (suc i) xs)
split_at xs i d l = sym (take-append-drop i xs) ∙ ap (λ ys. take i xs ++ ys) (drop-cons xs i d l)

module _ (n : ℕ) where
  pub riders_append : (es fs : List Entry) → riders n (es ++ fs) ≡ riders n es ++ riders n fs
  unfolding riders
  riders_append es fs =
      ap (map (λ e. e.signal)) (filter-append (λ e. eqb e.frame n) es fs) ∙ map-append (λ e. e.signal) (filter (λ e. eqb e.frame n) es) (filter (λ e. eqb e.frame n) fs)

  -- an entry in front
  pub rider : (e : Entry) (es : List Entry) → e.frame ≡ n → riders n (e ∷ es) ≡ e.signal ∷ riders n es
  unfolding riders
  rider e es q = grind (arith, nat_tests)

  pub no_rider : (e : Entry) (es : List Entry) → (e.frame ≡ n → ⊥) → riders n (e ∷ es) ≡ riders n es
  unfolding riders
  no_rider e es q = grind (arith, nat_tests)

  pub riders_nil : riders n [] ≡ []
  unfolding riders
  riders_nil = refl

  -- an entry at the end
  pub riders_push : (es : List Entry) (e : Entry) → e.frame ≡ n → riders n (es ++ (e ∷ [])) ≡ riders n es ++ (e.signal ∷ [])
  riders_push es e q =
      riders_append es (e ∷ []) ∙ ap (λ ss. riders n es ++ ss) (rider e [] q ∙ ap (λ ss. e.signal ∷ ss) riders_nil)

  pub riders_push_other : (es : List Entry) (e : Entry) → (e.frame ≡ n → ⊥) → riders n (es ++ (e ∷ [])) ≡ riders n es
  riders_push_other es e q =
      riders_append es (e ∷ []) ∙ ap (λ ss. riders n es ++ ss) (no_rider e [] q ∙ riders_nil) ∙ append-nil (riders n es)

  -- a loop's step
  module _ (es : List Entry) (i : ℕ) (within : i < length es) where
    pub riders_more : (get_or es i no_entry).frame ≡ n → riders n (take (i + 1) es) ≡ riders n (take i es) ++ ((get_or es i no_entry).signal ∷ [])
    riders_more q =
        ap (riders n) (take_more es i no_entry within) ∙ riders_push (take i es) (get_or es i no_entry) q

    pub riders_same : ((get_or es i no_entry).frame ≡ n → ⊥) → riders n (take (i + 1) es) ≡ riders n (take i es)
    riders_same q =
        ap (riders n) (take_more es i no_entry within) ∙ riders_push_other (take i es) (get_or es i no_entry) q

  pub riders_none : (es : List Entry) → AllByRecursion (λ e. e.frame ≡ n → ⊥) es → riders n es ≡ []
  riders_none [] h = riders_nil
  riders_none (e ∷ es) h = no_rider e es h.0 ∙ riders_none es h.1

  -- what holds of each entry in the frame holds of each of its signals
  pub riders_all : (P : Signal → Type 0) (es : List Entry) → AllByRecursion (λ e. e.frame ≡ n → P e.signal) es → AllByRecursion P (riders n es)
  riders_all P [] h = subst (AllByRecursion P) (sym riders_nil) tt
  riders_all P (e ∷ es) h = ⊎_elim {C = AllByRecursion P (riders n (e ∷ es))}
      (λ q. subst (AllByRecursion P) (sym (rider e es q)) (h.0 q, riders_all P es h.1))
      (λ q. subst (AllByRecursion P) (sym (no_rider e es q)) (riders_all P es h.1))
      (cases_eq e.frame n)

  -- the first of them, where there is one
  pub riders_some : (es : List Entry) → any_in n es ≡ true → (s : Signal) × (ss : List Signal) × (riders n es ≡ s ∷ ss)
  riders_some [] t = grind arith
  riders_some (e ∷ es) t = ⊎_elim {C = (s : Signal) × (ss : List Signal) × (riders n (e ∷ es) ≡ s ∷ ss)}
      (λ q. (e.signal, riders n es, rider e es q))
      (λ q. let r = riders_some es (grind (arith, nat_tests)) in (r.0, r.1, no_rider e es q ∙ r.2))
      (cases_eq e.frame n)

  -- one out
  module _ (es : List Entry) (i : ℕ) (within : i < length es) where
    pub riders_split : riders n es ≡ riders n (take i es) ++ riders n (get_or es i no_entry ∷ drop (suc i) es)
    riders_split =
        ap (riders n) (split_at es i no_entry within) ∙ riders_append (take i es) (get_or es i no_entry ∷ drop (suc i) es)

    pub riders_removed : riders n (remove es i) ≡ riders n (take i es) ++ riders n (drop (suc i) es)
    riders_removed = riders_append (take i es) (drop (suc i) es)

    pub riders_removed_other : ((get_or es i no_entry).frame ≡ n → ⊥) → riders n (remove es i) ≡ riders n es
    riders_removed_other q =
        riders_removed ∙ ap (λ ss. riders n (take i es) ++ ss) (sym (no_rider (get_or es i no_entry) (drop (suc i) es) q)) ∙ sym riders_split

-- each signal is in its own frame
pub any_own : (es : List Entry) → AllByRecursion (λ e. any_in e.frame es ≡ true) es
any_own [] = tt
any_own (e ∷ es) =
    (or_left _ _ (eq-eqb e.frame e.frame refl), All-weaker (λ x. any_in x.frame es ≡ true) (λ x. any_in x.frame (e ∷ es) ≡ true) (λ x t. or_right _ _ t) es (any_own es))

pub none_in : (n : ℕ) (es : List Entry) → any_in n es ≡ false → AllByRecursion (λ e. e.frame ≡ n → ⊥) es
none_in n [] t = tt
none_in n (e ∷ es) t = (grind (arith, nat_tests), none_in n es (grind arith))

pub none_any : (n : ℕ) (es : List Entry) → AllByRecursion (λ e. e.frame ≡ n → ⊥) es → any_in n es ≡ false
none_any n [] h = refl
none_any n (e ∷ es) h = grind (arith, nat_tests, h.0, none_any n es h.1)
