-- What a fault of a row says. Assumes nothing.
use Rattle.std.specs.Prelude.{ℕ, List, codes}
use Rattle.frames.specs.declared.fault.RowFault.{RowFault}
use Rattle.frames.specs.declared.fault.RowFault.TheVariants.{Fill, Period, Deadline, Set}

abbrev pub row_fault_text : RowFault → List ℕ
row_fault_text Fill = codes "the fill of a frame is outside its limits"
row_fault_text Period = codes "the period of a frame is outside its limits"
row_fault_text Deadline = codes "the deadline of a frame is outside its limits"
row_fault_text Set = codes "the domain set of a frame is outside its limits"
