-- A packing stays sound where a signal is taken out. Assumes nothing.
use Rattle.std.proofs.Common.{◌≡◌, ℕ, suc, ◌-◌, ◌<◌, ◌≤◌, true, false, List, [], ◌∷◌, ◌++◌, map, length, get_or, set, take, drop, sym, refl, ap, ◌∙◌, subst, ap₂, ⊎_elim, add-one, arith}
use Rattle.std.specs.List.{remove, AllByRecursion}
use Rattle.std.proofs.lemmas.List.{length-map, map-append, take-map, drop-map}
use Rattle.std.proofs.lemmas.List.Edits.{length-remove}
use Rattle.std.proofs.ByRecursion.{All-weaker, All-append, All-take, All-drop, All-get_or, All-map}
use Rattle.std.proofs.lemmas.Bool.{cases_eq, cond-true, cond-false, cond_both, lt-ltb, le-ltb}
use Rattle.frames.specs.Limits.{Lawful}
use Rattle.shelf.specs.Apart.{Apart}
use Rattle.shelf.proofs.Aparts.{apart_removed}
use Rattle.signals.specs.declared.signal.Entry.{Entry}
use Rattle.signals.specs.Limits.{LawfulSignal}
use Rattle.signals.specs.Names.{names, no_entry}
use Rattle.signals.specs.Riders.{riders, any_in}
use Rattle.signals.specs.Rows.{row_by}
use Rattle.signals.proofs.Riding.{rider, no_rider, riders_some, riders_split, riders_removed, riders_removed_other, any_own, none_in}
use Rattle.signals.proofs.Rowing.{fill_append, fill_cons, row_lawful, row_sender}
use Rattle.packing.specs.Packings.{Packing, packed, row, rows, lower, lowered, taken_out}
use Rattle.packing.proofs.Lowering.{raised, raised_lowered, raised_other, raised_below, lowered_below, riders_lowered, names_lowered}
use Rattle.packing.proofs.Rowed.{rows_set, rows_removed}
use Rattle.packing.proofs.Sounds.{Sound, Fair, lawful_riders, one_sender}

-- two facts of each element
all_both : {X : Type 0} (P Q : X → Type 0) (xs : List X) → AllByRecursion P xs → AllByRecursion Q xs → AllByRecursion (λ x. P x × Q x) xs
all_both P Q [] p q = tt
all_both P Q (x ∷ xs) p q = ((p.0, q.0), all_both P Q xs p.1 q.1)

-- a frame is no fuller without a signal
fill_without : (k : ℕ) (es : List Entry) (i : ℕ) → i < length es → (row_by (riders k (remove es i))).fill ≤ (row_by (riders k es)).fill
fill_without k es i within =
    let e = get_or es i no_entry in
    let front = riders k (take i es) in
    let rest = drop (suc i) es in
    let after : (row_by (riders k rest)).fill ≤ (row_by (riders k (e ∷ rest))).fill = ⊎_elim {C = (row_by (riders k rest)).fill ≤ (row_by (riders k (e ∷ rest))).fill}
    (λ q. omega (arith, ap (λ ss. (row_by ss).fill) (rider k e rest q), fill_cons e.signal (riders k rest)))
    (λ q. omega (arith, ap (λ ss. (row_by ss).fill) (no_rider k e rest q)))
    (cases_eq e.frame k) in
    omega (arith, ap (λ ss. (row_by ss).fill) (riders_removed k es i within), ap (λ ss. (row_by ss).fill) (riders_split k es i within), fill_append front (riders k rest), fill_append front (riders k (e ∷ rest)))

names_removed : (es : List Entry) (i : ℕ) → names (remove es i) ≡ remove (names es) i
names_removed es i =
    map-append (λ e. e.signal.name) (take i es) (drop (suc i) es) ∙ ap₂ ◌++◌ (sym (take-map (λ e. e.signal.name) i es)) (sym (drop-map (λ e. e.signal.name) (suc i) es))

module _ (p : Packing) (i : ℕ) (h : Sound p) (within : i < length p.signals) where
  abbrev pub gone : ℕ
  gone = (get_or p.signals i no_entry).frame

  abbrev left : List Entry
  left = remove p.signals i

  fair_left : AllByRecursion (Fair p) left
  fair_left =
      All-append (Fair p) _ _ (All-take (Fair p) i p.signals h.signals) (All-drop (Fair p) (suc i) p.signals h.signals)

  pub gone_below : gone < p.frames
  gone_below = (All-get_or (Fair p) p.signals i no_entry within h.signals).within

  names_left : Apart (names left)
  names_left =
      subst Apart (sym (names_removed p.signals i)) (apart_removed (names p.signals) i h.apart_names)

  same_riders : (k : ℕ) → (k ≡ gone → ⊥) → riders k left ≡ riders k p.signals
  same_riders k ne = riders_removed_other k p.signals i within (λ e. ne (sym e))

  pub fill_left : (row_by (riders gone left)).fill ≤ 64
  fill_left = omega (arith, fill_without gone p.signals i within, (h.frames gone gone_below).filled.1)

  -- its row alone is another
  pub rows_left : set (rows p) gone (row_by (riders gone left)) ≡ rows (packed left p.frames)
  rows_left = rows_set p.signals p.frames left gone _ gone_below refl same_riders

  -- the frame has signals left
  module _ (some : any_in gone left ≡ true) where
    lawful_left : Lawful (row_by (riders gone left))
    lawful_left =
        let r = riders_some gone left some in
        subst (λ ss. Lawful (row_by ss)) (sym r.2) (row_lawful r.0 r.1 (subst (AllByRecursion LawfulSignal) r.2 (lawful_riders p left fair_left gone)) (subst (λ ss. (row_by ss).fill ≤ 64) r.2 fill_left))

    row_left : (k : ℕ) → k < p.frames → Lawful (row_by (riders k left))
    row_left k l = ⊎_elim {C = Lawful (row_by (riders k left))}
        (λ q. subst (λ j. Lawful (row_by (riders j left))) (sym q) lawful_left)
        (λ q. subst (λ ss. Lawful (row_by ss)) (sym (same_riders k q)) (h.frames k l))
        (cases_eq k gone)

    sender_left : (k : ℕ) → any_in k left ≡ true → (row_by (riders k left)).sender ≡ (row p k).sender
    sender_left k t =
        let r = riders_some k left t in
        ap (λ ss. (row_by ss).sender) r.2 ∙ row_sender (row p k).sender r.0 r.1 (subst (AllByRecursion (λ s. s.sender ≡ (row p k).sender)) r.2 (one_sender p left fair_left k))

    sound_left : Sound (packed left p.frames)
    sound_left = record {
      few = omega (arith, length-remove p.signals i within, h.few);
      room = h.room;
      apart_names = names_left;
      signals = All-weaker (λ e. Fair p e × (any_in e.frame left ≡ true)) (Fair (packed left p.frames)) (λ e f. record { lawful = f.0.lawful; within = f.0.within; of_sender = f.0.of_sender ∙ sym (sender_left e.frame f.1) }) left (all_both (Fair p) (λ e. any_in e.frame left ≡ true) left fair_left (any_own left));
      frames = row_left;
    }

  -- the frame is empty, and leaves
  module _ (none : any_in gone left ≡ false) where
    others : AllByRecursion (λ e. e.frame ≡ gone → ⊥) left
    others = none_in gone left none

    riders_moved : (k : ℕ) → riders k (map (lower gone) left) ≡ riders (raised gone k) p.signals
    riders_moved k =
        riders_lowered gone k left others ∙ same_riders (raised gone k) (λ e. raised_other gone k (sym e))

    row_moved : (k : ℕ) → row_by (riders k (map (lower gone) left)) ≡ row p (raised gone k)
    row_moved k = ap row_by (riders_moved k)

    pub rows_moved : remove (rows p) gone ≡ rows (packed (map (lower gone) left) (p.frames - 1))
    rows_moved =
        rows_removed p.signals p.frames (map (lower gone) left) gone gone_below
        (λ k l. riders_moved k ∙ ap (λ j. riders j p.signals) (cond-true _ _ _ (lt-ltb k gone l)))
        (λ k l. riders_moved k ∙ ap (λ j. riders j p.signals) (cond-false _ _ _ (le-ltb k gone l) ∙ sym (add-one k)))

    fair_moved : (e : Entry) → Fair p e × (e.frame ≡ gone → ⊥) → Fair (packed (map (lower gone) left) (p.frames - 1)) (lower gone e)
    fair_moved e f = record {
      lawful = f.0.lawful;
      within = lowered_below gone e.frame p.frames f.0.within gone_below f.1;
      of_sender = f.0.of_sender ∙ ap (λ j. (row p j).sender) (sym (raised_lowered gone e.frame f.1)) ∙ ap (λ r. r.sender) (sym (row_moved (lowered gone e.frame)));
    }

    sound_moved : Sound (packed (map (lower gone) left) (p.frames - 1))
    sound_moved = record {
      few = omega (arith, length-map left (lower gone), length-remove p.signals i within, h.few);
      room = omega (arith, h.room);
      apart_names = subst Apart (sym (names_lowered gone left)) names_left;
      signals = All-map (Fair (packed (map (lower gone) left) (p.frames - 1))) (lower gone) left (All-weaker (λ e. Fair p e × (e.frame ≡ gone → ⊥)) (λ e. Fair (packed (map (lower gone) left) (p.frames - 1)) (lower gone e)) fair_moved left (all_both (Fair p) (λ e. e.frame ≡ gone → ⊥) left fair_left others));
      frames = λ k l. subst Lawful (sym (row_moved k)) (h.frames (raised gone k) (raised_below gone k p.frames l));
    }

  pub taken_sound : Sound (taken_out p i)
  unfolding taken_out
  taken_sound =
      cond_both (any_in gone left) (packed left p.frames) (packed (map (lower gone) left) (p.frames - 1)) Sound sound_left sound_moved
