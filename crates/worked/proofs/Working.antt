-- Figures worked by hand. Assumes nothing.
use Rattle.std.proofs.Common.{◌≡◌, ℕ, ◌+◌, ◌-◌, ◌≤◌, true, List, [], ◌∷◌, map, Some, None, sym, refl, ap, arith}
use Rattle.std.specs.List.{AllByRecursion}
use Rattle.frames.specs.declared.row.Row.{Row}
use Rattle.frames.specs.Limits.{Lawful, lawful}
use Rattle.frames.specs.Payloads.{payload}
use Rattle.frames.proofs.Lawfuls.{from_lawful}
use Rattle.shelf.specs.Folds.{every}
use Rattle.shelf.specs.Smallest.{smallest, first_of}
use Rattle.shelf.specs.Times.{or_zero}
use Rattle.shelf.proofs.Solutions.{solution_after}
use Rattle.streams.specs.declared.stream.Stream.{Stream}
use Rattle.streams.specs.Demands.{ceil, demand, total, weight, horizon, Fit}
use Rattle.streams.proofs.Demanding.{demand_mono}
use Rattle.domains.proofs.Replying.{all_lawful}
use Rattle.kinds.specs.Rows.{stream_by}
use Rattle.kinds.proofs.Singles.{all_fit}
use Rattle.gateway.specs.Gateways.{gateway_price, served, relayed}
use Rattle.gateway.specs.Relays.{gateway_kept}
use Rattle.bus.specs.Buses.{bus_price, blocking, busy_load, busy_period, queue_load, delay, instance_time, response_by}
use Rattle.bus.specs.Bussing.{busy_up, busy_starts, queue_up}
use Rattle.bus.proofs.Instances.{worst_found, instance_past, instance_found}
use Rattle.bus.specs.Wiring.{bus_kept}
use Rattle.worked.specs.Figures.{frame, processor, through_processor, over_link, fast_bus, slow_bus, on_bus, last, before, last_busy, last_instance, due, WorkedFigures, LaterInstance}

pub fills : (payload 8 ≡ 8) × (payload 9 ≡ 12) × (payload 17 ≡ 20) × (payload 49 ≡ 64)
unfolding payload smallest first_of
fills = (refl, refl, refl, refl)

abbrev waiting : Stream
waiting = stream_by (gateway_price processor) (frame 8 1000000)

abbrev above : List Stream
above = map (stream_by (gateway_price processor)) (frame 64 1000000 ∷ [])

pub gateway : through_processor (frame 8 1000000) (frame 64 1000000 ∷ []) ≡ Some 47200
unfolding relayed demand ceil payload smallest first_of
gateway =
    let fit = all_fit gateway_kept processor (frame 64 1000000 ∷ []) (from_lawful (frame 64 1000000) refl, tt) in
    solution_after (served waiting above) 1 horizon 2 47200 (omega arith) (λ v w h. omega (arith, demand_mono above fit v w h)) (omega arith) refl refl (omega arith)

pub radio : over_link (frame 2 1100000) (frame 8 1100000) ≡ Some 1100000
unfolding total payload smallest first_of
radio = refl

pub radio_late : over_link (frame 2 1099999) (frame 8 1100000) ≡ None
unfolding total payload smallest first_of
radio_late = refl

pub weighs : weight (record { cost = 92000; period = 3000000 }) ≡ 30667
unfolding weight ceil
weighs = refl

-- ---- frames on a bus
-- the last of three
abbrev slow : Row → Stream
slow r = stream_by (bus_price slow_bus) r

abbrev earlier : List Stream
earlier = map slow before

before_lawful : AllByRecursion Lawful before
before_lawful = (from_lawful (frame 8 2840000) refl, (from_lawful (frame 8 3976000) refl, tt))

earlier_fit : AllByRecursion Fit earlier
earlier_fit = all_fit bus_kept slow_bus before before_lawful

last_fit : Fit (slow last)
last_fit = (all_fit bus_kept slow_bus (last ∷ []) (from_lawful last refl, tt)).0

pub three_busy : busy_period (slow last) earlier 0 ≡ Some 7952000
unfolding busy_period demand ceil payload smallest first_of
three_busy = solution_after (busy_load (slow last) earlier 0) 1 horizon 5 7952000 (omega arith) (busy_up (slow last) earlier 0 last_fit earlier_fit) (omega arith) refl refl (omega arith)

wait_0 : delay 8000 (slow last) earlier 0 0 ≡ Some 2272000
unfolding delay demand ceil payload smallest first_of
wait_0 = solution_after (queue_load 8000 (slow last) earlier 0 0) 0 horizon 3 2272000 (omega arith) (queue_up (slow last) earlier 0 last_fit earlier_fit 8000 0) (omega arith) refl refl (omega arith)

wait_1 : delay 8000 (slow last) earlier 0 1 ≡ Some 6816000
unfolding delay demand ceil payload smallest first_of
wait_1 = solution_after (queue_load 8000 (slow last) earlier 0 1) 0 horizon 9 6816000 (omega arith) (queue_up (slow last) earlier 0 last_fit earlier_fit 8000 1) (omega arith) refl refl (omega arith)

pub busy : last_busy ≡ Some 7952000
unfolding blocking
busy = three_busy

time_0 : instance_time 8000 (slow last) earlier 0 0 ≡ 3408000
unfolding instance_time payload smallest first_of
time_0 = ap (λ o. (or_zero o + 1136000) - 0) wait_0

time_1 : instance_time 8000 (slow last) earlier 0 1 ≡ 3976000
unfolding instance_time payload smallest first_of
time_1 = ap (λ o. (or_zero o + 1136000) - 3976000) wait_1

two_instances : ceil 7952000 3976000 ≡ 2
unfolding ceil
two_instances = refl

pub first_instance : last_instance 0 ≡ Some 3408000
unfolding blocking payload smallest first_of
first_instance = sym (instance_found 8000 (slow last) earlier 0 7952000 0 2272000 (sym three_busy) (omega (arith, two_instances)) wait_0)

pub second_instance : last_instance 1 ≡ Some 3976000
unfolding blocking payload smallest first_of
second_instance = sym (instance_found 8000 (slow last) earlier 0 7952000 1 6816000 (sym three_busy) (omega (arith, two_instances)) wait_1)

pub no_third : last_instance 2 ≡ None
unfolding blocking
no_third = sym (instance_past 8000 (slow last) earlier 0 7952000 2 (sym three_busy) (omega (arith, two_instances)))

pub answer : on_bus slow_bus last before [] ≡ Some 3976000
unfolding blocking
answer = sym (worst_found 8000 (slow last) earlier 0 7952000 2 3976000 (sym three_busy) (sym two_instances) (omega (arith, time_0, time_1)))

pub later : LaterInstance
later = record {
  bus = slow_bus;
  frame_asked = last;
  above = before;
  lawful = (from_lawful last refl, before_lawful);
  first = 3408000;
  first_is = first_instance;
  worst = 3976000;
  worst_is = answer;
  later = omega arith;
}

-- ---- a busy period l of one instance, which waits for w: one turn of each rule finds them
abbrev pub OneTurn : ℕ → Stream → List Stream → ℕ → ℕ → ℕ → ℕ → Type 0
OneTurn a s us b l w r =
    (busy_load s us b 1 ≡ l) × (l ≡ busy_load s us b l) × (l ≤ horizon) × (1 ≡ ceil l s.period) × (queue_load a s us b 0 0 ≡ w) × (w ≡ queue_load a s us b 0 w) × (w ≤ horizon) × (r ≡ w + s.cost)

single : (a : ℕ) (s : Stream) (us : List Stream) (b l w r : ℕ) → Fit s → AllByRecursion Fit us → OneTurn a s us b l w r → response_by a s us b ≡ Some r
unfolding busy_period delay instance_time
single a s us b l w r own fit h =
    let busy_is = solution_after (busy_load s us b) 1 horizon 1 l (omega arith) (busy_up s us b own fit) (busy_starts s us b own fit) h.0 h.1 h.2 in
    let wait = solution_after (queue_load a s us b 0) 0 horizon 1 w (omega arith) (queue_up s us b own fit a 0) (omega arith) h.4 h.5 h.6 in
    sym (worst_found a s us b l 1 r (sym busy_is) h.3 (omega (arith, ap or_zero wait)))

abbrev pub fast : Row → Stream
fast r = stream_by (bus_price fast_bus) r

pub fast_answer : (f : Row) (us ls : List Row) (l w r : ℕ) → every lawful (f ∷ us) ≡ true → OneTurn 2000 (fast f) (map fast us) (blocking (map fast ls)) l w r → on_bus fast_bus f us ls ≡ Some r
fast_answer f us ls l w r ok =
    let fit = all_fit bus_kept fast_bus (f ∷ us) ((all_lawful (f ∷ us)).0 ok) in
    single 2000 (fast f) (map fast us) (blocking (map fast ls)) l w r fit.0 fit.1

pub upper : on_bus fast_bus due [] (due ∷ []) ≡ Some 244000
unfolding blocking demand ceil payload smallest first_of
upper = fast_answer due [] (due ∷ []) 244000 122000 244000 refl (refl, refl, omega arith, refl, refl, refl, omega arith, refl)

pub lower : on_bus fast_bus due (due ∷ []) [] ≡ Some 244000
unfolding blocking demand ceil payload smallest first_of
lower = fast_answer due (due ∷ []) [] 244000 122000 244000 refl (refl, refl, omega arith, refl, refl, refl, omega arith, refl)

pub alone : on_bus fast_bus due [] [] ≡ Some 122000
unfolding blocking demand ceil payload smallest first_of
alone = fast_answer due [] [] 122000 0 122000 refl (refl, refl, omega arith, refl, refl, refl, omega arith, refl)

-- ---- all of them
pub figures : WorkedFigures
figures = record {
  fill_8 = fills.0;
  fill_9 = fills.1;
  fill_17 = fills.2;
  fill_49 = fills.3;
  cost_2 = refl;
  cost_16 = refl;
  cost_20 = refl;
  cost_64 = refl;
  weighs = weighs;
  gateway = gateway;
  radio = radio;
  radio_late = radio_late;
  cost_slow = refl;
  busy = busy;
  first_instance = first_instance;
  second_instance = second_instance;
  no_third = no_third;
  answer = answer;
  upper = upper;
  lower = lower;
  alone = alone;
}
