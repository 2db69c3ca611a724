-- The first four lines of a sheet are those of one bank, or have one fault. Assumes nothing.
use Rattle.std.proofs.Common.{◌≡◌, ℕ, List, ◌++◌, refl, sym, ap, subst, ◌∙◌, arith}
use Rattle.std.specs.Prelude.{Some, None}
use Rattle.std.proofs.Math.Bridge.{le_prop}
use Rattle.std.proofs.Math.Path.{ap₂}
use Rattle.std.proofs.lemmas.Bool.Decides.{nat_tests}
use Rattle.fields.specs.Fields.{AllFit}
use Rattle.domains.specs.declared.pair.Pair.{Pair}
use Rattle.domains.specs.Faults.{Limited, first_outside, domain_told}
use Rattle.bus.specs.Buses as B
use Rattle.bus.specs.Limits.{LawfulArbitration, LawfulData}
use Rattle.gateway.specs.Gateways as G
use Rattle.gateway.specs.Limits as GL
use Rattle.radio.specs.Radios as R
use Rattle.radio.specs.Limits as RL
use Rattle.sheet.specs.declared.fault.SheetFault.{SheetFault}
use Rattle.sheet.specs.Faults.{of_domain}
use Rattle.sheet.specs.Forms.{Form, bus_form, gateway_form, radio_form, line}
use Rattle.sheet.specs.Heads.{Four, DomainRefuses, FromLine, HeadFault, SecondBusFault, GatewayFault, RadioFault, bank_lines, bus_limits, gateway_limits, radio_limits, field}
use Rattle.sheet.specs.Heads.FromLine.{here, later}
use Rattle.sheet.specs.Lines.{AtFault}
use Rattle.sheet.proofs.Lining.{line_apart, at_fault_one, at_fault_no}
use Rattle.sheet.proofs.Telling.{domain_apart}

-- the line of a kind of domain: its figures have their digits, lie within their limits, and are those of one domain
record DomainLine {D : Type 0} (f : Form) (figures : D → List ℕ) (limits : List ℕ → List Limited) : Type 0 where
  fits : (d : D) → AllFit f.widths (figures d)
  right : (d : D) → first_outside 1 (limits (figures d)) ≡ None
  one : (d c : D) → figures d ≡ figures c → d ≡ c

-- what is made from figures within their limits is made in one way
made_one : {V D : Type 0} (P : V → Type 0) (make : (v : V) → P v → D) → ((v : V) → IsProp (P v))
    → (v u : V) (p : P v) (q : P u) → v ≡ u → make v p ≡ make u q
made_one P make prop v u p q e = subst (λ x. (r : P x) → make v p ≡ make x r) e (λ r. ap (make v) (prop v p r)) q

bus_own : DomainLine bus_form B.figures bus_limits
bus_own = record {
  fits = λ b. let a = b.arbitrates in let s = b.sends in (omega arith, (omega arith, tt));
  right = λ b. let a = b.arbitrates in let s = b.sends in grind (arith, nat_tests);
  one = λ b c e.
      made_one (λ vs. LawfulArbitration (field vs 0) × LawfulData (field vs 0) (field vs 1))
      (λ vs p. record { arbitration = field vs 0; «data» = field vs 1; arbitrates = p.0; sends = p.1 })
      (λ vs. hlevel le_prop) (B.figures b) (B.figures c) (b.arbitrates, b.sends) (c.arbitrates, c.sends) e;
}

gateway_own : DomainLine gateway_form G.figures gateway_limits
gateway_own = record {
  fits = λ g. let a = g.starts in let s = g.copies in (omega arith, (omega arith, tt));
  right = λ g. let a = g.starts in let s = g.copies in grind (arith, nat_tests);
  one = λ g c e.
      made_one (λ vs. GL.LawfulFixed (field vs 0) × GL.LawfulByte (field vs 1))
      (λ vs p. record { fixed = field vs 0; byte = field vs 1; starts = p.0; copies = p.1 })
      (λ vs. hlevel le_prop) (G.figures g) (G.figures c) (g.starts, g.copies) (c.starts, c.copies) e;
}

radio_own : DomainLine radio_form R.figures radio_limits
radio_own = record {
  fits = λ r. let l = r.limits in (omega arith, tt);
  right = λ r. let l = r.limits in grind (arith, nat_tests);
  one = λ r c e.
      made_one (λ vs. RL.LawfulByte (field vs 0)) (λ vs p. record { byte = field vs 0; limits = p }) (λ vs. hlevel le_prop)
      (R.figures r) (R.figures c) r.limits c.limits e;
}

module _ {D : Type 0} (f : Form) (figures : D → List ℕ) (limits : List ℕ → List Limited) (own : DomainLine f figures limits) where
  -- the same text is that of the line of one domain, whatever follows it
  domain_line_apart : (d c : D) (r q : List ℕ) → line f (figures d) ++ r ≡ line f (figures c) ++ q → (d ≡ c) × (r ≡ q)
  domain_line_apart d c r q e =
      let same = line_apart f (figures d) (figures c) r q (own.fits d) (own.fits c) e in
      (own.one d c same.0, same.1)

  module _ (n : ℕ) where
    refused_one : (vs : List ℕ) (e x : SheetFault) → DomainRefuses limits n vs e → DomainRefuses limits n vs x → e ≡ x
    refused_one vs e x h g =
        let told : Some (domain_told h.0) ≡ Some (domain_told g.0) = sym h.2 ∙ g.2 in
        h.1 ∙ ap (of_domain n) (domain_apart h.0 g.0 (cc told)) ∙ sym g.1

    line_right : (e : SheetFault) (s : List ℕ) (d : D) (r : List ℕ) → s ≡ line f (figures d) ++ r → AtFault f n (DomainRefuses limits n) s e → ⊥
    line_right e s d r is =
        at_fault_no f n s (DomainRefuses limits n) e (figures d) r (own.fits d) is
        (λ h. let none = own.right d in let some = h.2 in cc (none, some))

    -- from line n on there is one fault where there is one after it
    from_line_one : (Later : SheetFault → List ℕ → Type 0) → ((t : List ℕ) (e x : SheetFault) → Later e t → Later x t → e ≡ x)
        → (s : List ℕ) (e x : SheetFault) → FromLine f figures limits n (Later e) s e → FromLine f figures limits n (Later x) s x → e ≡ x
    from_line_one Later one s e x (here h) (here g) = at_fault_one f n s (DomainRefuses limits n) refused_one e x h g
    from_line_one Later one s e x (here h) (later d r is l) = absurd (line_right e s d r is h)
    from_line_one Later one s e x (later d r is l) (here g) = absurd (line_right x s d r is g)
    from_line_one Later one s e x (later d r is l) (later c q has k) =
        let same = domain_line_apart d c r q (sym is ∙ has) in
        one q e x (subst (Later e) same.1 l) k

    -- and none where a domain stands and what follows it has none
    from_line_no : (e : SheetFault) (Later : List ℕ → Type 0) (s : List ℕ) (d : D) (r : List ℕ) → s ≡ line f (figures d) ++ r → (Later r → ⊥)
        → FromLine f figures limits n Later s e → ⊥
    from_line_no e Later s d r is none (here h) = line_right e s d r is h
    from_line_no e Later s d r is none (later c q has l) =
        let same = domain_line_apart c d q r (sym has ∙ is) in
        none (subst Later same.1 l)

pair_one : {A B : Type 0} {p q : Pair A B} → p.first ≡ q.first → p.second ≡ q.second → p ≡ q
pair_one = ap₂ (λ x y. record { first = x; second = y })

radio_one : (s : List ℕ) (e x : SheetFault) → RadioFault e s → RadioFault x s → e ≡ x
radio_one = from_line_one radio_form R.figures radio_limits radio_own 4 (λ e t. ⊥) (λ t e x h. absurd h)

gateway_one : (s : List ℕ) (e x : SheetFault) → GatewayFault e s → GatewayFault x s → e ≡ x
gateway_one = from_line_one gateway_form G.figures gateway_limits gateway_own 3 RadioFault radio_one

second_bus_one : (s : List ℕ) (e x : SheetFault) → SecondBusFault e s → SecondBusFault x s → e ≡ x
second_bus_one = from_line_one bus_form B.figures bus_limits bus_own 2 GatewayFault gateway_one

-- the first four lines have one fault
pub head_one : (s : List ℕ) (e x : SheetFault) → HeadFault e s → HeadFault x s → e ≡ x
head_one = from_line_one bus_form B.figures bus_limits bus_own 1 SecondBusFault second_bus_one

-- and none where they are written out from domains
pub head_no : (e : SheetFault) (s : List ℕ) (d : Four) (rest : List ℕ) → s ≡ bank_lines d rest → HeadFault e s → ⊥
head_no e s d rest is =
    from_line_no bus_form B.figures bus_limits bus_own 1 e (SecondBusFault e) s d.first.first _ is
    (from_line_no bus_form B.figures bus_limits bus_own 2 e (GatewayFault e) _ d.first.second _ refl
    (from_line_no gateway_form G.figures gateway_limits gateway_own 3 e (RadioFault e) _ d.second.first _ refl
    (from_line_no radio_form R.figures radio_limits radio_own 4 e (λ t. ⊥) _ d.second.second rest refl (λ h. h))))

-- the same text is that of one bank, whatever follows it
pub bank_apart : (d c : Four) (r q : List ℕ) → bank_lines d r ≡ bank_lines c q → (d ≡ c) × (r ≡ q)
bank_apart d c r q e =
    let a = domain_line_apart bus_form B.figures bus_limits bus_own d.first.first c.first.first _ _ e in
    let b = domain_line_apart bus_form B.figures bus_limits bus_own d.first.second c.first.second _ _ a.1 in
    let g = domain_line_apart gateway_form G.figures gateway_limits gateway_own d.second.first c.second.first _ _ b.1 in
    let l = domain_line_apart radio_form R.figures radio_limits radio_own d.second.second c.second.second r q g.1 in
    (pair_one (pair_one a.0 b.0) (pair_one g.0 l.0), l.1)
