-- What the tables keep of a packing, as a test. Assumes nothing.
use Rattle.std.specs.Prelude.{Bool, ◌&&◌, length, ◌==◌, nat_le, nat_lt}
use Rattle.frames.specs.Limits.{lawful}
use Rattle.shelf.specs.Apart.{apart}
use Rattle.shelf.specs.Folds.{every}
use Rattle.signals.specs.declared.signal.Entry.{Entry}
use Rattle.signals.specs.Limits.{lawful_signal}
use Rattle.signals.specs.Names.{names}
use Rattle.packing.specs.Packings.{Packing, row, rows}

-- a signal is within its limits, in a frame that there is, and of that frame's sender
abbrev pub fair : Packing → Entry → Bool
fair p e = lawful_signal e.signal && (nat_lt e.frame p.frames && e.signal.sender == (row p e.frame).sender)

-- at most 256 signals and 96 frames, no name twice, each signal fair, each row a record's
unfoldable pub sound : Packing → Bool
sound p = nat_le (length p.signals) 256 && (nat_le p.frames 96 && (apart (names p.signals) && (every (fair p) p.signals && every lawful (rows p))))
