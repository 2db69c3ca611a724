-- A packing stays sound where a signal goes to a frame that may take it. Assumes nothing.
use Rattle.std.proofs.Common.{◌≡◌, ℕ, ◌+◌, ◌<◌, ◌≤◌, List, [], ◌∷◌, ◌++◌, sym, refl, ap, ◌∙◌, subst, ⊎_elim, arith}
use Rattle.std.specs.List.{AllByRecursion}
use Rattle.std.proofs.lemmas.List.{length_push, map_push}
use Rattle.std.proofs.ByRecursion.{All-push, All-weaker}
use Rattle.std.proofs.lemmas.Bool.{cases_eq, cases_lt, and_parts, eqb-true, leb-true}
use Rattle.frames.specs.Limits.{Lawful}
use Rattle.shelf.specs.Apart.{Apart}
use Rattle.shelf.proofs.Aparts.{apart_push}
use Rattle.signals.specs.declared.signal.Signal.{Signal}
use Rattle.signals.specs.declared.signal.Entry.{Entry}
use Rattle.signals.specs.Limits.{LawfulSignal}
use Rattle.signals.specs.Names.{names}
use Rattle.signals.specs.Riders.{riders}
use Rattle.signals.specs.Rows.{row_by}
use Rattle.signals.proofs.Riding.{riders_none, riders_push, riders_push_other}
use Rattle.signals.proofs.Rowing.{row_nil, row_push, row_lawful}
use Rattle.packing.specs.Choices.{row_with}
use Rattle.packing.specs.Laws.{Placeable}
use Rattle.packing.specs.Packings.{Packing, row, placed}
use Rattle.packing.proofs.Sounds.{Sound, Fair, lawful_riders}

-- past the last frame there are no riders
pub none_past : (p : Packing) (n : ℕ) → Sound p → p.frames ≤ n → AllByRecursion (λ e. e.frame ≡ n → ⊥) p.signals
none_past p n h l = All-weaker (Fair p) (λ e. e.frame ≡ n → ⊥) (λ e f q. omega (arith, f.within)) p.signals h.signals

pub riders_past : (p : Packing) (n : ℕ) → Sound p → p.frames ≤ n → riders n p.signals ≡ []
riders_past p n h l = riders_none n p.signals (none_past p n h l)

pub fill_push : (ss : List Signal) (s : Signal) → (row_by (ss ++ (s ∷ []))).fill ≡ (row_by ss).fill + s.size
fill_push ss s = ap (λ r. r.fill) (row_push ss s)

pub lawful_push : (ss : List Signal) (s : Signal) → AllByRecursion LawfulSignal ss → LawfulSignal s → (row_by ss).fill + s.size ≤ 64 → Lawful (row_by (ss ++ (s ∷ [])))
lawful_push [] s h l room = row_lawful s [] (l, tt) (omega (arith, fill_push [] s))
lawful_push (t ∷ ss) s h l room =
    row_lawful t (ss ++ (s ∷ [])) (h.0, All-push LawfulSignal ss s h.1 l) (omega (arith, fill_push (t ∷ ss) s))

pub lawful_with : (p : Packing) (n : ℕ) (s : Signal) → Sound p → LawfulSignal s → (row p n).fill + s.size ≤ 64 → Lawful (row_with p n s)
lawful_with p n s h l room = lawful_push (riders n p.signals) s (lawful_riders p p.signals h.signals n) l room

-- a new frame has room for any signal
pub room_past : (p : Packing) (n : ℕ) (s : Signal) → Sound p → LawfulSignal s → p.frames ≤ n → (row p n).fill + s.size ≤ 64
room_past p n s h l past = omega (arith, ap (λ ss. (row_by ss).fill) (riders_past p n h past), ap (λ r. r.fill) row_nil, l.sized.1)

module _ (p : Packing) (s : Signal) (n : ℕ) (h : Sound p) (may : Placeable p s n) where
  abbrev new : Entry
  new = record { signal = s; frame = n }

  pub room_at : (row p n).fill + s.size ≤ 64
  room_at = ⊎_elim {C = (row p n).fill + s.size ≤ 64}
      (λ l. leb-true _ _ (and_parts _ _ (may.joins l)).1)
      (room_past p n s h may.lawful)
      (cases_lt n p.frames)

  -- the row of the frame, and those of the others
  row_there : row (placed p s n) n ≡ row_by (riders n p.signals ++ (s ∷ []))
  unfolding placed
  row_there = ap row_by (riders_push n p.signals new refl)

  row_elsewhere : (k : ℕ) → (k ≡ n → ⊥) → row (placed p s n) k ≡ row p k
  unfolding placed
  row_elsewhere k ne = ap row_by (riders_push_other k p.signals new (λ e. ne (sym e)))

  sender_there : (row (placed p s n) n).sender ≡ s.sender
  sender_there = ap (λ r. r.sender) (row_there ∙ row_push (riders n p.signals) s)

  -- the sender of each row that was there stays
  sender_stays : (k : ℕ) → k < p.frames → (row (placed p s n) k).sender ≡ (row p k).sender
  sender_stays k l = ⊎_elim {C = (row (placed p s n) k).sender ≡ (row p k).sender}
      (λ q. let m : n < p.frames = omega arith in ap (λ i. (row (placed p s n) i).sender) q ∙ sender_there ∙ sym (eqb-true _ _ (and_parts _ _ (may.joins m)).0) ∙ ap (λ i. (row p i).sender) (sym q))
      (λ q. ap (λ r. r.sender) (row_elsewhere k q))
      (cases_eq k n)

  pub placed_sound : Sound (placed p s n)
  unfolding placed
  placed_sound = record {
    few = omega (arith, length_push p.signals new, may.few);
    room = omega (arith, h.room, may.room);
    apart_names = subst Apart (sym (map_push (λ e. e.signal.name) p.signals new)) (apart_push (names p.signals) s.name h.apart_names may.free);
    signals = All-push (Fair (placed p s n)) p.signals new
        (All-weaker (Fair p) (Fair (placed p s n)) (λ e f. record { lawful = f.lawful; within = omega (arith, f.within); of_sender = f.of_sender ∙ sym (sender_stays e.frame f.within) }) p.signals h.signals)
        (record { lawful = may.lawful; within = omega arith; of_sender = sym sender_there });
    frames = λ k l. ⊎_elim {C = Lawful (row (placed p s n) k)}
        (λ q. subst (λ i. Lawful (row (placed p s n) i)) (sym q) (subst Lawful (sym row_there) (lawful_with p n s h may.lawful room_at)))
        (λ q. subst Lawful (sym (row_elsewhere k q)) (h.frames k (omega (arith, may.near))))
        (cases_eq k n);
  }
