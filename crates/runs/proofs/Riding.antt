-- Which frame a signal rides in, and when it arrives. Assumes nothing.
use Rattle.std.proofs.Common.{◌≡◌, ℕ, ◌+◌, ◌≤◌, true, List, ◌∷◌, sym, refl, ap, ◌∙◌, subst, ⊎_elim, le_trans, arith}
use Rattle.timing.specs.Carried.{in_set, carried}
use Rattle.shelf.specs.Numbers.{numbers}
use Rattle.shelf.specs.Picks.{Pick, Among}
use Rattle.shelf.specs.Picks.Pick.{here, there}
use Rattle.shelf.proofs.Numbering.{number_in}
use Rattle.shelf.proofs.Perms.{pick_map, pick_back, pick_split, all_pick, taken}
use Rattle.signals.specs.declared.signal.Signal.{Signal}
use Rattle.signals.specs.declared.signal.Entry.{Entry}
use Rattle.signals.specs.Riders.{riders}
use Rattle.signals.proofs.Riding.{rider, no_rider}
use Rattle.packing.specs.Laws.{Carries, WellPacked}
use Rattle.packing.specs.Packings.{Packing, row, rows}
use Rattle.plan.specs.Banks.{Bank}
use Rattle.plan.specs.Subject.{OrderStands}
use Rattle.packing.proofs.Rowed.{rows_long}
use Rattle.runs.specs.Lives.{Rides, Reaches}
use Rattle.runs.proofs.Living.{signals_of}
use Rattle.std.proofs.lemmas.Bool.{cases_eq}

-- a signal in a frame is one of its riders
rides_in : {e : Entry} {es r : List Entry} → Pick e es r → (n : ℕ) → e.frame ≡ n → Among e.signal (riders n es)
rides_in {e} (here {y = y} {r = r} q) n is =
    subst (Among e.signal) (sym (rider n y r (sym (ap (λ x. x.frame) q) ∙ is))) (riders n r, here (ap (λ x. x.signal) q))
rides_in {e} (there {y = y} {xs = xs} p) n is =
    let a = rides_in p n is in
    ⊎_elim {C = Among e.signal (riders n (y ∷ xs))}
    (λ q. subst (Among e.signal) (sym (rider n y xs q)) (y.signal ∷ a.0, there a.1))
    (λ q. subst (Among e.signal) (sym (no_rider n y xs q)) a)
    (cases_eq y.frame n)

module _ (p : Packing) (well : WellPacked p) where
  pub rides : (s : Signal) → Among s (signals_of p.signals) → Rides p s
  rides s h =
      let b = pick_back (λ e. e.signal) p.signals h.1 in
      let x = b.0 in
      let c : Carries p x.frame s = (b.1, subst (λ t. Pick (record { signal = t; frame = x.frame }) p.signals b.1) (sym b.3) b.2) in
      record {
        frame = x.frame;
        exists = well.exists x.frame s c;
        carried_by = c;
        only = λ n d. well.one_frame n x.frame s d c;
      }

  pub only : (n : ℕ) (s : Signal) → Carries p n s → Among s (signals_of p.signals)
  only n s c = (signals_of c.0, pick_map (λ e. e.signal) c.1)

  module _ (n : ℕ) (s : Signal) (c : Carries p n s) where
    riding : Among s (riders n p.signals)
    riding = rides_in c.1 n refl

    row_deadline : (row p n).deadline ≤ s.deadline
    row_deadline =
        all_pick (λ t. (row p n).deadline ≤ t.deadline) (well.gathered n (well.exists n s c)).deadline.least riding.1

    row_named : (k : ℕ) → in_set k s.set ≡ true → carried k (row p n) ≡ true
    row_named k t = (well.gathered n (well.exists n s c)).reaches k (s, riding, t)

  pub reaches : (m : Bank) (o : List ℕ) → OrderStands m p o → (s : Signal) → Among s (signals_of p.signals) → Reaches m p o s
  reaches m o stands s h =
      let r = rides s h in
      let n = r.frame in
      let z : 0 + n ≡ n = omega arith in
      let i = number_in 0 n (rows p) (omega (arith, rows_long p.signals p.frames, r.exists)) in
      let t = taken stands.once (subst (λ k. Pick k (numbers 0 (rows p)) i.0) z i.1) in
      let c = pick_split t.1 in
      record {
        frame = n;
        carried_by = r.carried_by;
        before = c.0;
        behind = c.1;
        placed = c.2;
        hears = λ k l q. stands.hears c.0 n c.1 c.2 k l (row_named n s r.carried_by k q);
        timely = λ k l q. le_trans (stands.hears c.0 n c.1 c.2 k l (row_named n s r.carried_by k q)).kept (row_deadline n s r.carried_by);
      }
