-- What every packing keeps, and what enter chooses, in words. Assumes nothing.
use Rattle.std.specs.Prelude.{◌≡◌, ℕ, ◌<◌, ◌≤◌, true, length, ◌≢◌}
use Rattle.std.specs.List.{AllByRecursion}
use Rattle.frames.specs.Limits.{Lawful}
use Rattle.shelf.specs.Apart.{Apart}
use Rattle.shelf.specs.Picks.{Among}
use Rattle.signals.specs.declared.signal.Signal.{Signal}
use Rattle.signals.specs.Gathered.{Gathered}
use Rattle.signals.specs.Limits.{LawfulSignal}
use Rattle.signals.specs.Names.{names}
use Rattle.signals.specs.Riders.{riders}
use Rattle.packing.specs.Choices.{may_join}
use Rattle.packing.specs.Packings.{Packing, row, placed, packing_weight}

-- frame n carries the signal
abbrev pub Carries : Packing → ℕ → Signal → Type 0
Carries p n s = Among (record { signal = s; frame = n }) p.signals

pub record WellPacked (p : Packing) : Type 0 where
  -- at most 256 signals and 96 frames
  pub few : length p.signals ≤ 256
  pub room : p.frames ≤ 96
  -- no two signals have one name
  pub names_apart : Apart (names p.signals)
  -- each signal is within its limits, and rides in exactly one frame, which there is
  pub lawful : (n : ℕ) (s : Signal) → Carries p n s → LawfulSignal s
  pub exists : (n : ℕ) (s : Signal) → Carries p n s → n < p.frames
  pub one_frame : (m n : ℕ) (s : Signal) → Carries p m s → Carries p n s → m ≡ n
  -- each frame's row is exactly what its signals give, of which there is one, all of one sender; and it is a record's
  pub gathered : (n : ℕ) → n < p.frames → Gathered (riders n p.signals) (row p n)
  pub checked : (n : ℕ) → n < p.frames → Lawful (row p n)

-- frame n may take the signal: an old one of its sender that has room, or a new one where there is room for it
pub record Placeable (p : Packing) (s : Signal) (n : ℕ) : Type 0 where
  pub lawful : LawfulSignal s
  pub few : length p.signals < 256
  pub free : AllByRecursion (λ y. y ≢ s.name) (names p.signals)
  pub near : n ≤ p.frames
  pub room : n < 96
  pub joins : n < p.frames → may_join (row p n) s ≡ true

-- the new packing has the signal in a frame that may take it. No other such frame makes a lighter one, and every
-- earlier such frame a heavier; a new frame is numbered after all old ones. None makes a packing that is lighter than
-- before
pub record Lightest (cost : ℕ → ℕ → ℕ) (p : Packing) (s : Signal) (new : Packing) : Type 0 where
  pub frame : ℕ
  pub may : Placeable p s frame
  pub is : new ≡ placed p s frame
  pub least : (k : ℕ) → Placeable p s k → packing_weight cost new ≤ packing_weight cost (placed p s k)
  pub first : (k : ℕ) → k < frame → Placeable p s k → packing_weight cost new < packing_weight cost (placed p s k)
  pub grows : (k : ℕ) → Placeable p s k → packing_weight cost p ≤ packing_weight cost (placed p s k)
