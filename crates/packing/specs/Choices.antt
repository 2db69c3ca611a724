-- Where a signal may go, and where the weight grows least. Assumes nothing.
use Rattle.std.specs.Prelude.{ℕ, zero, suc, ◌+◌, ◌-◌, Bool, cond, ◌&&◌, [], ◌∷◌, ◌++◌, Some, None, Option, ◌==◌, nat_le, nat_lt}
use Rattle.frames.specs.declared.row.Row.{Row}
use Rattle.signals.specs.declared.signal.Signal.{Signal}
use Rattle.signals.specs.Riders.{riders}
use Rattle.signals.specs.Rows.{row_by}
use Rattle.weights.specs.Weights.{row_weight}
use Rattle.packing.specs.declared.choice.Choice.{Choice}
use Rattle.packing.specs.Packings.{Packing, row}

-- a frame of the same sender, with room for the signal
abbrev pub may_join : Row → Signal → Bool
may_join r s = r.sender == s.sender && nat_le (r.fill + s.size) 64

-- the row of frame n with the signal in it
abbrev pub row_with : Packing → ℕ → Signal → Row
row_with p n s = row_by (riders n p.signals ++ (s ∷ []))

-- by how much the weight grows where the signal goes to frame n, if it may go there.
-- The number after the last is a new frame, and 96 may exist
unfoldable pub growth_at : (ℕ → ℕ → ℕ) → Packing → Signal → ℕ → Option ℕ
growth_at cost p s n =
    cond (nat_lt n p.frames) (cond (may_join (row p n) s) (Some (row_weight cost (row_with p n s) - row_weight cost (row p n))) None) (cond (nat_lt n 96) (Some (row_weight cost (row_with p n s))) None)

abbrev pub at_frame : ℕ → Option ℕ → Option Choice
at_frame n None = None
at_frame n (Some g) = Some (record { frame = n; growth = g })

-- the one that grows less; the earlier of equals
abbrev pub lighter : Option Choice → Option Choice → Option Choice
lighter earlier None = earlier
lighter None (Some c) = Some c
lighter (Some b) (Some c) = cond (nat_le b.growth c.growth) (Some b) (Some c)

abbrev pub lightest_below : (ℕ → Option ℕ) → ℕ → Option Choice
lightest_below growth zero = None
lightest_below growth (suc n) = lighter (lightest_below growth n) (at_frame n (growth n))

-- the old frames in list order, and then a new one
unfoldable pub choice : (ℕ → ℕ → ℕ) → Packing → Signal → Option Choice
choice cost p s = lightest_below (growth_at cost p s) (suc p.frames)
