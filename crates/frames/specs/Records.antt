-- The row of a record, and what the check of a row answers. Assumes nothing.
use Rattle.std.specs.Prelude.{◌≡◌, Ok, Err, Result}
use Rattle.frames.specs.declared.fault.RowFault.{RowFault}
use Rattle.frames.specs.declared.fault.RowFault.TheVariants.{Fill, Period, Deadline, Set}
use Rattle.frames.specs.declared.row.Row.{Row}
use Rattle.frames.specs.declared.frame.Frame.{Frame}
use Rattle.frames.specs.Limits.{LawfulFill, LawfulPeriod, LawfulDeadline, LawfulSet}

abbrev pub row_of : Frame → Row
row_of f = record { sender = f.sender; fill = f.fill; period = f.period; deadline = f.deadline; set = f.set }

-- the row breaks this limit, and none that is asked about before it
abbrev pub Breaks : Row → RowFault → Type 0
Breaks r Fill = LawfulFill r.fill → ⊥
Breaks r Period = LawfulFill r.fill × (LawfulPeriod r.period → ⊥)
Breaks r Deadline = LawfulFill r.fill × LawfulPeriod r.period × (LawfulDeadline r.period r.deadline → ⊥)
Breaks r Set = LawfulFill r.fill × LawfulPeriod r.period × LawfulDeadline r.period r.deadline × (LawfulSet r.set → ⊥)

-- a record has the row's figures, and only a row outside the limits gets none: the first that it breaks is named
abbrev pub Checked : Row → Result Frame RowFault → Type 0
Checked r (Ok f) = row_of f ≡ r
Checked r (Err e) = Breaks r e
