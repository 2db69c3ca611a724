-- What the tables keep of a packing, in words. Assumes nothing.
use Rattle.std.proofs.Common.{◌≡◌, ℕ, ◌≤◌, List, [], ◌∷◌, refl, ap, arith}
use Rattle.std.specs.List.{AllByRecursion}
use Rattle.shelf.proofs.Perms.{all_pick, pick_known}
use Rattle.signals.specs.declared.signal.Signal.{Signal}
use Rattle.signals.specs.Gathered.{Gathered}
use Rattle.signals.specs.Limits.{LawfulSignal}
use Rattle.signals.specs.Riders.{riders}
use Rattle.signals.specs.Rows.{row_by}
use Rattle.signals.proofs.Rowing.{row_nil, row_gathered}
use Rattle.packing.specs.declared.tables.Tables.{Tables}
use Rattle.packing.specs.Holds.{held}
use Rattle.packing.specs.Laws.{WellPacked}
use Rattle.packing.specs.Packings.{Packing, row}
use Rattle.packing.proofs.Sounds.{Sound, Fair, to_sound, lawful_riders, one_sender}

-- signals that fill something are there
gathered_by : (q : ℕ) (ss : List Signal) → AllByRecursion LawfulSignal ss → AllByRecursion (λ s. s.sender ≡ q) ss → 1 ≤ (row_by ss).fill → Gathered ss (row_by ss)
gathered_by q [] h one some = absurd (let no : ⊥ = omega (arith, ap (λ r. r.fill) row_nil) in no)
gathered_by q (s ∷ ss) h one some = row_gathered s ss h q one

pub well_packed : (p : Packing) → Sound p → WellPacked p
well_packed p h = record {
  few = h.few;
  room = h.room;
  names_apart = h.apart_names;
  lawful = λ n s c. (all_pick (Fair p) h.signals c.1).lawful;
  exists = λ n s c. (all_pick (Fair p) h.signals c.1).within;
  one_frame = λ m n s c d. ap (λ e. e.frame) (pick_known (λ e. e.signal.name) h.apart_names c.1 d.1 refl);
  gathered = λ n l. gathered_by (row p n).sender (riders n p.signals) (lawful_riders p p.signals h.signals n) (one_sender p p.signals h.signals n) (h.frames n l).filled.0;
  checked = h.frames;
}

-- so what tables hold is well packed
pub held_packed : (t : Tables) → WellPacked (held t)
held_packed t = well_packed (held t) (to_sound (held t) t.ok)
