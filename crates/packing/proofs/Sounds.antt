-- What the tables keep of a packing, as a fact and as a test. Assumes nothing.
use Rattle.std.proofs.Common.{◌≡◌, ℕ, ◌<◌, ◌≤◌, true, List, length, Decides, sym, ap, ◌∙◌, subst, arith}
use Rattle.std.specs.List.{AllByRecursion}
use Rattle.std.proofs.lemmas.Bool.{and_parts, and_from, leb-true, le-leb, ltb-true, lt-ltb, eqb-true, eq-eqb}
use Rattle.std.proofs.ByRecursion.{All-get_or, All-from_get_or, All-weaker}
use Rattle.frames.specs.declared.row.Row.{Row}
use Rattle.frames.specs.Limits.{Lawful, lawful}
use Rattle.frames.proofs.Lawfuls.{decides_lawful}
use Rattle.shelf.specs.Apart.{Apart, apart}
use Rattle.shelf.specs.Folds.{every}
use Rattle.shelf.proofs.Aparts.{decides_apart}
use Rattle.shelf.proofs.Folds.{decides_every}
use Rattle.signals.specs.declared.signal.Entry.{Entry}
use Rattle.signals.specs.Limits.{LawfulSignal, lawful_signal}
use Rattle.signals.specs.Names.{names}
use Rattle.signals.specs.Riders.{riders}
use Rattle.signals.proofs.Riding.{riders_all}
use Rattle.signals.proofs.Rowing.{decides_signal}
use Rattle.domains.specs.Asked.{no_row}
use Rattle.packing.specs.Packings.{Packing, row, rows}
use Rattle.packing.specs.Sound.{fair, sound}
use Rattle.packing.proofs.Rowed.{rows_long, row_at}

pub record Fair (p : Packing) (e : Entry) : Type 0 where
  pub lawful : LawfulSignal e.signal
  pub within : e.frame < p.frames
  pub of_sender : e.signal.sender ≡ (row p e.frame).sender

pub record Sound (p : Packing) : Type 0 where
  pub few : length p.signals ≤ 256
  pub room : p.frames ≤ 96
  pub apart_names : Apart (names p.signals)
  pub signals : AllByRecursion (Fair p) p.signals
  pub frames : (n : ℕ) → n < p.frames → Lawful (row p n)

decides_fair : (p : Packing) (e : Entry) → Decides (fair p e) (Fair p e)
decides_fair p e = (
  (λ h.
      let a = and_parts (lawful_signal e.signal) _ h in
      let b = and_parts _ _ a.1 in
      record { lawful = (decides_signal e.signal).0 a.0; within = ltb-true _ _ b.0; of_sender = eqb-true _ _ b.1 }),
  (λ h. and_from _ _ ((decides_signal e.signal).1 h.lawful) (and_from _ _ (lt-ltb _ _ h.within) (eq-eqb _ _ h.of_sender))),
)

fairs : (p : Packing) (es : List Entry) → Decides (every (fair p) es) (AllByRecursion (Fair p) es)
fairs p = decides_every (fair p) (Fair p) (decides_fair p)

all_lawful : (rs : List Row) → Decides (every lawful rs) (AllByRecursion Lawful rs)
all_lawful = decides_every lawful Lawful decides_lawful

-- what each entry keeps, its frame's riders keep
module _ (p : Packing) (es : List Entry) (fair : AllByRecursion (Fair p) es) (k : ℕ) where
  pub lawful_riders : AllByRecursion LawfulSignal (riders k es)
  lawful_riders =
      riders_all k LawfulSignal es (All-weaker (Fair p) (λ e. e.frame ≡ k → LawfulSignal e.signal) (λ e f q. f.lawful) es fair)

  pub one_sender : AllByRecursion (λ s. s.sender ≡ (row p k).sender) (riders k es)
  one_sender =
      riders_all k (λ s. s.sender ≡ (row p k).sender) es (All-weaker (Fair p) (λ e. e.frame ≡ k → e.signal.sender ≡ (row p k).sender) (λ e f q. f.of_sender ∙ ap (λ j. (row p j).sender) q) es fair)

module _ (p : Packing) where
  each_row : AllByRecursion Lawful (rows p) → (n : ℕ) → n < p.frames → Lawful (row p n)
  each_row h n l =
      subst Lawful (row_at p.signals p.frames n no_row l) (All-get_or Lawful (rows p) n no_row (omega (arith, rows_long p.signals p.frames)) h)

  pub lawful_rows : ((n : ℕ) → n < p.frames → Lawful (row p n)) → AllByRecursion Lawful (rows p)
  lawful_rows h =
      All-from_get_or Lawful (rows p) no_row (λ n l. let k : n < p.frames = omega (arith, rows_long p.signals p.frames) in subst Lawful (sym (row_at p.signals p.frames n no_row k)) (h n k))

  pub to_sound : sound p ≡ true → Sound p
  unfolding sound
  to_sound e =
      let a = and_parts _ _ e in
      let b = and_parts _ _ a.1 in
      let c = and_parts (apart (names p.signals)) _ b.1 in
      let d = and_parts (every (fair p) p.signals) _ c.1 in
      record {
        few = leb-true _ _ a.0;
        room = leb-true _ _ b.0;
        apart_names = (decides_apart (names p.signals)).0 c.0;
        signals = (fairs p p.signals).0 d.0;
        frames = each_row ((all_lawful (rows p)).0 d.1);
      }

  pub from_sound : Sound p → sound p ≡ true
  unfolding sound
  from_sound h =
      and_from _ _ (le-leb _ _ h.few) (and_from _ _ (le-leb _ _ h.room) (and_from _ _ ((decides_apart (names p.signals)).1 h.apart_names) (and_from _ _ ((fairs p p.signals).1 h.signals) ((all_lawful (rows p)).1 (lawful_rows h.frames)))))
