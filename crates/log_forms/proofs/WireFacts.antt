-- The form of a wire has the logs of which the facts hold.
use Rattle.std.proofs.Common.{◌≡◌, ℕ, ◌-◌, ◌<◌, ◌≤◌, ◌^◌, true, ltb, leb, Option, Some, None, List, [], ◌∷◌, ◌++◌, refl, sym, subst, arith}
use Rattle.std.specs.List.{AllByRecursion, last_or}
use Rattle.std.proofs.lemmas.Bool.{eqb-true, ltb-true, leb-true, lt-ltb, le-leb, eq-eqb, and_parts, and_from}
use Rattle.xs_base.specs.Numbers.{Slot}
use Rattle.xs_base.specs.declared.token.Token.TheVariants.{Byte, Ctrl}
use Rattle.xs_base.specs.declared.entry.Entry.{Entry}
use Rattle.xs_base.specs.declared.entry.What.{What}
use Rattle.xs_base.specs.declared.entry.What.TheVariants as what
use Rattle.byte_forms.specs.Forms.{HoldInChain}
use Rattle.log_forms.specs.Entries.{kind_of, value_of, is_in_flight, is_after, wire_slot, wire_kind, level, wire_entry}
use Rattle.snap_parts.specs.Parts.{LogRec}
use Rattle.log_forms.specs.Logs.{wire_log}
use Rattle.snap_parts.specs.InFlight.{IsOfWire, IsInFlight, IsEarlier}
use Rattle.log_forms.specs.InFlight.{IsWireLog}
use Rattle.log_forms.proofs.Pushes.{last_push}
use Rattle.log_forms.proofs.LinkFacts.{sums_say, sums_hold}
use Rattle.log_forms.proofs.Orders.{Follows, Adjacent, stand_so, adjacent, earlier_through}

-- ---- From what the form has to the facts

is_of_wire : (width : ℕ) (w : What) → kind_of w ≡ 3 → value_of w < 2 ^ width → IsOfWire width w
is_of_wire width (what.Token (Byte b)) is small = absurd (omega (arith, is))
is_of_wire width (what.Token (Ctrl c)) is small = absurd (omega (arith, is))
is_of_wire width what.Credit is small = absurd (omega (arith, is))
is_of_wire width (what.Level n) is small = small

follows : (last : Option Entry) (e : Entry) → is_after last e.slot ≡ true → Follows IsEarlier last e
follows None e h = tt
follows (Some l) e h = ltb-true l.slot e.slot h

record Says (slot : Slot) (delay width : ℕ) (last : Option Entry) (e : Entry) : Type 0 where
  flight : IsInFlight slot delay e
  kind : IsOfWire width e.what
  after : Follows IsEarlier last e

entry_says : (slot : Slot) (delay width : ℕ) (last : Option Entry) (e : Entry) → (wire_entry slot delay width last).Holds e → Says slot delay width last e
unfolding wire_entry wire_slot wire_kind level
entry_says slot delay width last e h =
    let p = and_parts (is_in_flight slot delay e.slot) (is_after last e.slot) h.0.1 in
    let q = and_parts (leb (slot - delay) e.slot) (ltb e.slot slot) p.0 in
    record {
      flight = record { sent = leb-true (slot - delay) e.slot q.0; before = ltb-true e.slot slot q.1 };
      kind = is_of_wire width e.what (eqb-true (kind_of e.what) 3 h.1.0.1) (ltb-true (value_of e.what) (2 ^ width) h.1.1.1);
      after = follows last e p.1;
    }

module _ (slot : Slot) (delay width : ℕ) where
  abbrev Hold : List Entry → List Entry → Type 0
  Hold = HoldInChain (λ before. wire_entry slot delay width (last_or None before))

  record AreTold (last : Option Entry) (entries : List Entry) : Type 0 where
    flight : AllByRecursion (IsInFlight slot delay) entries
    kinds : AllByRecursion (λ e. IsOfWire width e.what) entries
    order : Adjacent IsEarlier last entries

  chain_says : (before more : List Entry) → Hold before more → AreTold (last_or None before) more
  unfolding HoldInChain
  chain_says before [] h = record { flight = tt; kinds = tt; order = tt }
  chain_says before (e ∷ more) h =
      let s = entry_says slot delay width (last_or None before) e h.0 in
      let r = subst (λ (last : Option Entry). AreTold last more) (last_push None before e) (chain_says (before ++ e ∷ []) more h.1) in
      record { flight = (s.flight, r.flight); kinds = (s.kind, r.kinds); order = (s.after, r.order) }

pub wire_facts : (slot : Slot) (delay width : ℕ) (log : LogRec) → (wire_log slot delay width).Holds log → IsWireLog slot delay width log
unfolding wire_log
wire_facts slot delay width log h =
    let told = chain_says slot delay width [] log.entries h.0.1.1 in
    let rest = sums_say (2 ^ width) log h.1 in
    record {
      count = h.0.0;
      entries = record { in_flight = told.flight; kinds = told.kinds; order = stand_so IsEarlier earlier_through log.entries told.order };
      tokens = rest.tokens;
      credits = rest.credits;
      level = rest.level;
    }

-- ---- From the facts to what the form has

kind_fits : (width : ℕ) (w : What) → IsOfWire width w → (kind_of w ≡ 3) × (value_of w < 2 ^ width)
kind_fits width (what.Token t) h = absurd h
kind_fits width what.Credit h = absurd h
kind_fits width (what.Level n) h = (refl, h)

is_after_last : (last : Option Entry) (e : Entry) → Follows IsEarlier last e → is_after last e.slot ≡ true
is_after_last None e h = refl
is_after_last (Some l) e h = lt-ltb l.slot e.slot h

entry_holds : (slot : Slot) (delay width : ℕ) (last : Option Entry) (e : Entry) → slot < 2 ^ 32 → 2 ^ width ≤ 2 ^ 32
    → IsInFlight slot delay e → IsOfWire width e.what → Follows IsEarlier last e → (wire_entry slot delay width last).Holds e
unfolding wire_entry wire_slot wire_kind level
entry_holds slot delay width last e fits most flight kind after =
    let k = kind_fits width e.what kind in
    let at : e.slot < 2 ^ 32 = omega (arith, fits, flight.before) in
    let three : kind_of e.what < 256 = omega (arith, k.0) in
    let value : value_of e.what < 2 ^ 32 = omega (arith, k.1, most) in (
      (at, and_from _ _ (and_from _ _ (le-leb (slot - delay) e.slot flight.sent) (lt-ltb e.slot slot flight.before)) (is_after_last last e after)),
      ((three, eq-eqb (kind_of e.what) 3 k.0), (value, lt-ltb _ _ k.1)),
    )

module _ (slot : Slot) (delay width : ℕ) (fits : slot < 2 ^ 32) (most : 2 ^ width ≤ 2 ^ 32) where
  chain_holds : (before more : List Entry) → AllByRecursion (IsInFlight slot delay) more → AllByRecursion (λ e. IsOfWire width e.what) more
      → Adjacent IsEarlier (last_or None before) more → Hold slot delay width before more
  unfolding HoldInChain
  chain_holds before [] flight kinds order = tt
  chain_holds before (e ∷ more) flight kinds order =
      let order' = subst (λ (last : Option Entry). Adjacent IsEarlier last more) (sym (last_push None before e)) order.1 in
      (entry_holds slot delay width (last_or None before) e fits most flight.0 kinds.0 order.0, chain_holds (before ++ e ∷ []) more flight.1 kinds.1 order')

pub wire_from_facts : (slot : Slot) (delay width : ℕ) (log : LogRec) → slot < 2 ^ 32 → 2 ^ width ≤ 2 ^ 32 → IsWireLog slot delay width log → (wire_log slot delay width).Holds log
unfolding wire_log
wire_from_facts slot delay width log fits most h =
    let told = chain_holds slot delay width fits most [] log.entries h.entries.in_flight h.entries.kinds (adjacent IsEarlier log.entries h.entries.order) in
    ((h.count, (refl, told)), sums_hold (2 ^ width) log most (record { tokens = h.tokens; credits = h.credits; level = h.level }))
