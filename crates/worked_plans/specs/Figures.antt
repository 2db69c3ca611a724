-- Figures, orders and a plan worked by hand. Assumes nothing.
use Rattle.std.specs.Prelude.{◌≡◌, ℕ, Bool, List, [], ◌∷◌, Some, None, codes}
use Rattle.frames.specs.declared.row.Row.{Row}
use Rattle.domains.specs.Asked.{no_row}
use Rattle.signals.specs.declared.signal.Signal.{Signal}
use Rattle.packing.specs.Packings.{rows}
use Rattle.ordering.specs.Orders.{order_of, conflict_of}
use Rattle.plan.specs.Banks.{Bank, in_time}
use Rattle.plan.specs.Said.Said.{gives}
use Rattle.plan.specs.Stands.Stands.{order}
use Rattle.runs.specs.declared.call.Call.{Call}
use Rattle.runs.specs.Books.{new, run, replies}
use Rattle.runs.specs.Replies.{Reply, of_change, of_move, of_order}
use Rattle.sheet.specs.Banks.{bus_bank, sheet_bank}
use Rattle.sheet.specs.Heads.{Four, bank_lines}
use Rattle.sheet.specs.Plans.{calls}
use Rattle.sheet.specs.Signals.{signal_lines}
use Rattle.worked.specs.Figures.{processor, link, fast_bus, due, WorkedFigures}

-- whether a frame is in time on the fast bus, with others above it and below it
abbrev pub timely_on_bus : Row → List Row → List Row → Bool
timely_on_bus = in_time (bus_bank fast_bus)

-- two fast buses, the processor and the link
abbrev pub four : Four
four = record { first = record { first = fast_bus; second = fast_bus }; second = record { first = processor; second = link } }

abbrev pub four_domains : Bank
four_domains = sheet_bank four

-- a signal whose deadline is its period
abbrev pub signal : ℕ → ℕ → ℕ → ℕ → ℕ → Signal
signal name sender size period set = record { name = name; sender = sender; size = size; period = period; deadline = period; set = set }

-- three signals, the first and the third of one sender
abbrev pub three : List Signal
three = signal 1 1 8 10000000 1 ∷ signal 2 2 2 5000000 3 ∷ signal 3 1 4 10000000 1 ∷ []

-- they are entered, and the plan is closed and ordered
abbrev pub three_signals : List Call
three_signals = calls three

-- the sheet of them over the four domains
abbrev pub three_sheet : List ℕ
three_sheet = codes "C 000007D0 000001F4\nC 000007D0 000001F4\nG 00004E20 00000064\nR 0000C350\nS 0001 1 08 00989680 00989680 1\nS 0002 2 02 004C4B40 004C4B40 3\nS 0003 1 04 00989680 00989680 1\n"

-- the frame of the first signal and the third
abbrev pub shared : Row
shared = record { sender = 1; fill = 12; period = 10000000; deadline = 10000000; set = 1 }

-- the frame of the second signal
abbrev pub sole : Row
sole = record { sender = 2; fill = 2; period = 5000000; deadline = 5000000; set = 3 }

-- the reply to an enter that is not refused
abbrev pub entered_one : Reply
entered_one = of_change (gives [])

pub record WorkedPlans : Type 0 where
  -- the figures of frames in domains
  pub figures : WorkedFigures
  -- two frames that are in each other's way have no order, and both are the conflict
  pub no_order : order_of timely_on_bus (due ∷ due ∷ []) no_row ≡ None
  pub conflict : conflict_of timely_on_bus (due ∷ due ∷ []) no_row ≡ 0 ∷ 1 ∷ []
  -- three signals: their sheet, their two frames, the response times at their priorities, the order, and the two
  -- examinations that it takes
  pub sheet : bank_lines four (signal_lines three) ≡ three_sheet
  pub frames : rows (run four_domains new three_signals).packing ≡ shared ∷ sole ∷ []
  pub shared_answer : four_domains.response 0 shared (sole ∷ []) [] ≡ Some 234000
  pub sole_answer : four_domains.response 0 sole [] (shared ∷ []) ≡ Some 234000
  pub sole_alone : four_domains.response 1 sole [] [] ≡ Some 92000
  pub ordered : (run four_domains new three_signals).stands ≡ order (1 ∷ 0 ∷ [])
  pub examinations : replies four_domains new three_signals ≡ entered_one ∷ entered_one ∷ entered_one ∷ of_move ∷ of_order (gives (2 ∷ 2 ∷ [])) ∷ []
