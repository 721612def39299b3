-- What waits at the ends of a node, and what was sent by them, at link ends and at those of wires.
use Rattle.std.proofs.Common.{◌≡◌, ◌≢◌, ℕ, zero, suc, ◌+◌, ◌-◌, ◌<◌, ◌≤◌, List, [], ◌∷◌, length, map, refl, sym, ap, ◌∙◌, arith, inl, inr}
use Rattle.std.specs.Prelude.{slice_set}
use Rattle.std.proofs.lemmas.Bool.{cases_lt, cases_eq, lt-ltb, le-ltb}
use Rattle.std.proofs.lemmas.List.{length-set, get_or-set_same, get_or-set_other, set-get_or}
use Rattle.xs_base.specs.Numbers.{Slot, EndNumber}
use Rattle.xs_base.specs.Batch.{BatchRec}
use Rattle.xs_base.specs.declared.entry.Entry.{Entry}
use Rattle.node_runners.specs.declared.inlets.Inlets.{Inlets}
use Rattle.node_runners.specs.declared.wire_inlets.WireInlet.{WireInlet}
use Rattle.node_runners.specs.Queue.{InletRec, no_inlet, inlet_at, longer, after_slot}
use Rattle.node_runners.specs.Wires.{no_wire_in, wire_in, wire_after, longer_wire}
use Rattle.node_runners.specs.Ends.{IsThere, inlet_by, heard_at}
use Rattle.node_runners.specs.Sent.{WireOutRec, OutletsRec, no_batch, batch_at, no_wire_out, wire_out, batch_by, with_batch}
use Rattle.node_runners.proofs.Gathers.{inlet-after}

-- ---- What waits

module _ (inlets : Inlets) (end : EndNumber) where
  pub by-link : end < 8 → inlet_by inlets end ≡ inlet_at inlets.links.ends end
  by-link h = rw (lt-ltb end 8 h) refl

  pub by-wire : 8 ≤ end → inlet_by inlets end ≡ (wire_in inlets.wires (end - 8)).inlet
  by-wire h = rw (le-ltb end 8 h) refl

pub by-wire-at : (inlets : Inlets) (k : ℕ) → inlet_by inlets (8 + k) ≡ (wire_in inlets.wires k).inlet
by-wire-at inlets k =
    let same : 8 + k - 8 ≡ k = omega arith in
    by-wire inlets (8 + k) (omega arith) ∙ ap (λ j. (wire_in inlets.wires j).inlet) same

-- after a slot
pub wire-after : (slot : Slot) (wires : List WireInlet) (k : ℕ) → wire_in (map (wire_after slot) wires) k ≡ wire_after slot (wire_in wires k)
wire-after slot [] k = refl
wire-after slot (w ∷ wires) zero = refl
wire-after slot (w ∷ wires) (suc k) = wire-after slot wires k

pub after-link : (slot : Slot) (inlets after : Inlets) → after.links.ends ≡ map (after_slot slot) inlets.links.ends → (end : EndNumber) → end < 8 → inlet_by after end ≡ after_slot slot (inlet_by inlets end)
after-link slot inlets after links end h =
    by-link after end h ∙ ap (λ (xs : List InletRec). inlet_at xs end) links ∙ inlet-after slot inlets.links.ends end ∙ ap (after_slot slot) (sym (by-link inlets end h))

pub after-wire : (slot : Slot) (inlets after : Inlets) → after.wires ≡ map (wire_after slot) inlets.wires → (end : EndNumber) → 8 ≤ end → inlet_by after end ≡ after_slot slot (inlet_by inlets end)
after-wire slot inlets after wires end h =
    by-wire after end h ∙ ap (λ (ws : List WireInlet). (wire_in ws (end - 8)).inlet) wires ∙ ap (λ (w : WireInlet). w.inlet) (wire-after slot inlets.wires (end - 8))
    ∙ ap (after_slot slot) (sym (by-wire inlets end h))

-- ---- More was seen at an end

module _ (inlets : Inlets) (end : EndNumber) (entries : List Entry) where
  abbrev link_heard : Inlets
  link_heard = record inlets { links = record inlets.links { ends = slice_set inlets.links.ends end (longer (inlet_at inlets.links.ends end) entries) } }

  abbrev wire_heard : Inlets
  wire_heard = record inlets { wires = slice_set inlets.wires (end - 8) (longer_wire (wire_in inlets.wires (end - 8)) entries) }

  heard-link : end < 8 → heard_at end entries inlets ≡ link_heard
  heard-link h = rw (lt-ltb end 8 h) refl

  heard-wire : 8 ≤ end → heard_at end entries inlets ≡ wire_heard
  heard-wire h = rw (le-ltb end 8 h) refl

  pub heard-here : IsThere end (length inlets.links.ends) (length inlets.wires) → inlet_by (heard_at end entries inlets) end ≡ longer (inlet_by inlets end) entries
  heard-here there = elim (cases_lt end 8) [
    | inl h ↦
        ap (λ (x : Inlets). inlet_by x end) (heard-link h) ∙ by-link link_heard end h ∙ get_or-set_same inlets.links.ends end (longer (inlet_at inlets.links.ends end) entries) no_inlet (there.link h)
        ∙ ap (λ (i : InletRec). longer i entries) (sym (by-link inlets end h))
    | inr h ↦
        ap (λ (x : Inlets). inlet_by x end) (heard-wire h) ∙ by-wire wire_heard end h
        ∙ ap (λ (w : WireInlet). w.inlet) (get_or-set_same inlets.wires (end - 8) (longer_wire (wire_in inlets.wires (end - 8)) entries) no_wire_in (omega (arith, h, there.wire h)))
        ∙ ap (λ (i : InletRec). longer i entries) (sym (by-wire inlets end h))
  ]

  other-link : (k : EndNumber) → k ≢ end → end < 8 → inlet_by link_heard k ≡ inlet_by inlets k
  other-link k ne h = elim (cases_lt k 8) [
    | inl l ↦ by-link link_heard k l ∙ get_or-set_other inlets.links.ends end k (longer (inlet_at inlets.links.ends end) entries) no_inlet ne ∙ sym (by-link inlets k l)
    | inr l ↦ by-wire link_heard k l ∙ sym (by-wire inlets k l)
  ]

  other-wire : (k : EndNumber) → k ≢ end → 8 ≤ end → inlet_by wire_heard k ≡ inlet_by inlets k
  other-wire k ne h = elim (cases_lt k 8) [
    | inl l ↦ by-link wire_heard k l ∙ sym (by-link inlets k l)
    | inr l ↦
        by-wire wire_heard k l
        ∙ ap (λ (w : WireInlet). w.inlet) (get_or-set_other inlets.wires (end - 8) (k - 8) (longer_wire (wire_in inlets.wires (end - 8)) entries) no_wire_in (λ same. ne (omega (arith, same, h, l))))
        ∙ sym (by-wire inlets k l)
  ]

  pub heard-other : (k : EndNumber) → k ≢ end → inlet_by (heard_at end entries inlets) k ≡ inlet_by inlets k
  heard-other k ne = elim (cases_lt end 8) [
    | inl h ↦ ap (λ (x : Inlets). inlet_by x k) (heard-link h) ∙ other-link k ne h
    | inr h ↦ ap (λ (x : Inlets). inlet_by x k) (heard-wire h) ∙ other-wire k ne h
  ]

  -- all else is the same
  pub heard-links : length (heard_at end entries inlets).links.ends ≡ length inlets.links.ends
  heard-links = elim (cases_lt end 8) [
    | inl h ↦ ap (λ (x : Inlets). length x.links.ends) (heard-link h) ∙ length-set inlets.links.ends end (longer (inlet_at inlets.links.ends end) entries)
    | inr h ↦ ap (λ (x : Inlets). length x.links.ends) (heard-wire h)
  ]

  pub heard-wires : length (heard_at end entries inlets).wires ≡ length inlets.wires
  heard-wires = elim (cases_lt end 8) [
    | inl h ↦ ap (λ (x : Inlets). length x.wires) (heard-link h)
    | inr h ↦ ap (λ (x : Inlets). length x.wires) (heard-wire h) ∙ length-set inlets.wires (end - 8) (longer_wire (wire_in inlets.wires (end - 8)) entries)
  ]

  port-same : (j : ℕ) → end - 8 < length inlets.wires → (wire_in wire_heard.wires j).port ≡ (wire_in inlets.wires j).port
  port-same j within = elim (cases_eq j (end - 8)) [
    | inl at ↦
        ap (λ i. (wire_in wire_heard.wires i).port) at
        ∙ ap (λ (w : WireInlet). w.port) (get_or-set_same inlets.wires (end - 8) (longer_wire (wire_in inlets.wires (end - 8)) entries) no_wire_in within)
        ∙ ap (λ i. (wire_in inlets.wires i).port) (sym at)
    | inr ne ↦ ap (λ (w : WireInlet). w.port) (get_or-set_other inlets.wires (end - 8) j (longer_wire (wire_in inlets.wires (end - 8)) entries) no_wire_in ne)
  ]

  pub heard-ports : IsThere end (length inlets.links.ends) (length inlets.wires) → (j : ℕ) → (wire_in (heard_at end entries inlets).wires j).port ≡ (wire_in inlets.wires j).port
  heard-ports there j = elim (cases_lt end 8) [
    | inl h ↦ ap (λ (x : Inlets). (wire_in x.wires j).port) (heard-link h)
    | inr h ↦ ap (λ (x : Inlets). (wire_in x.wires j).port) (heard-wire h) ∙ port-same j (omega (arith, h, there.wire h))
  ]

-- ---- What was sent

module _ (outlets : OutletsRec) (end : EndNumber) where
  pub sent-link : end < 8 → batch_by outlets end ≡ batch_at outlets.links end
  sent-link h = rw (lt-ltb end 8 h) refl

  pub sent-wire : 8 ≤ end → batch_by outlets end ≡ (wire_out outlets.wires (end - 8)).batch
  sent-wire h = rw (le-ltb end 8 h) refl

pub sent-wire-at : (outlets : OutletsRec) (k : ℕ) → batch_by outlets (8 + k) ≡ (wire_out outlets.wires k).batch
sent-wire-at outlets k =
    let same : 8 + k - 8 ≡ k = omega arith in
    sent-wire outlets (8 + k) (omega arith) ∙ ap (λ j. (wire_out outlets.wires j).batch) same

module _ (outlets : OutletsRec) (end : EndNumber) (b : BatchRec) where
  abbrev link_sent : OutletsRec
  link_sent = record outlets { links = slice_set outlets.links end b }

  abbrev wire_now : WireOutRec
  wire_now = record (wire_out outlets.wires (end - 8)) { batch = b }

  abbrev wire_sent : OutletsRec
  wire_sent = record outlets { wires = slice_set outlets.wires (end - 8) wire_now }

  with-link : end < 8 → with_batch end b outlets ≡ link_sent
  with-link h = rw (lt-ltb end 8 h) refl

  with-wire : 8 ≤ end → with_batch end b outlets ≡ wire_sent
  with-wire h = rw (le-ltb end 8 h) refl

  pub with-here : IsThere end (length outlets.links) (length outlets.wires) → batch_by (with_batch end b outlets) end ≡ b
  with-here there = elim (cases_lt end 8) [
    | inl h ↦ ap (λ (o : OutletsRec). batch_by o end) (with-link h) ∙ sent-link link_sent end h ∙ get_or-set_same outlets.links end b no_batch (there.link h)
    | inr h ↦
        ap (λ (o : OutletsRec). batch_by o end) (with-wire h) ∙ sent-wire wire_sent end h
        ∙ ap (λ (w : WireOutRec). w.batch) (get_or-set_same outlets.wires (end - 8) wire_now no_wire_out (omega (arith, h, there.wire h)))
  ]

  with-other-link : (k : EndNumber) → k ≢ end → end < 8 → batch_by link_sent k ≡ batch_by outlets k
  with-other-link k ne h = elim (cases_lt k 8) [
    | inl l ↦ sent-link link_sent k l ∙ get_or-set_other outlets.links end k b no_batch ne ∙ sym (sent-link outlets k l)
    | inr l ↦ sent-wire link_sent k l ∙ sym (sent-wire outlets k l)
  ]

  with-other-wire : (k : EndNumber) → k ≢ end → 8 ≤ end → batch_by wire_sent k ≡ batch_by outlets k
  with-other-wire k ne h = elim (cases_lt k 8) [
    | inl l ↦ sent-link wire_sent k l ∙ sym (sent-link outlets k l)
    | inr l ↦
        sent-wire wire_sent k l
        ∙ ap (λ (w : WireOutRec). w.batch) (get_or-set_other outlets.wires (end - 8) (k - 8) wire_now no_wire_out (λ same. ne (omega (arith, same, h, l))))
        ∙ sym (sent-wire outlets k l)
  ]

  pub with-other : (k : EndNumber) → k ≢ end → batch_by (with_batch end b outlets) k ≡ batch_by outlets k
  with-other k ne = elim (cases_lt end 8) [
    | inl h ↦ ap (λ (o : OutletsRec). batch_by o k) (with-link h) ∙ with-other-link k ne h
    | inr h ↦ ap (λ (o : OutletsRec). batch_by o k) (with-wire h) ∙ with-other-wire k ne h
  ]

  pub with-links : length (with_batch end b outlets).links ≡ length outlets.links
  with-links = elim (cases_lt end 8) [
    | inl h ↦ ap (λ (o : OutletsRec). length o.links) (with-link h) ∙ length-set outlets.links end b
    | inr h ↦ ap (λ (o : OutletsRec). length o.links) (with-wire h)
  ]

  pub with-wires : length (with_batch end b outlets).wires ≡ length outlets.wires
  with-wires = elim (cases_lt end 8) [
    | inl h ↦ ap (λ (o : OutletsRec). length o.wires) (with-link h)
    | inr h ↦ ap (λ (o : OutletsRec). length o.wires) (with-wire h) ∙ length-set outlets.wires (end - 8) wire_now
  ]

  -- a wire keeps its port, and what it was told last
  module _ {X : Type 0} (of : WireOutRec → X) (keeps : (w : WireOutRec) → of (record w { batch = b }) ≡ of w) where
    kept-same : (j : ℕ) → end - 8 < length outlets.wires → of (wire_out wire_sent.wires j) ≡ of (wire_out outlets.wires j)
    kept-same j within = elim (cases_eq j (end - 8)) [
      | inl at ↦
          ap (λ i. of (wire_out wire_sent.wires i)) at
          ∙ ap of (get_or-set_same outlets.wires (end - 8) wire_now no_wire_out within)
          ∙ keeps (wire_out outlets.wires (end - 8))
          ∙ ap (λ i. of (wire_out outlets.wires i)) (sym at)
      | inr ne ↦ ap of (get_or-set_other outlets.wires (end - 8) j wire_now no_wire_out ne)
    ]

    pub with-kept : IsThere end (length outlets.links) (length outlets.wires) → (j : ℕ) → of (wire_out (with_batch end b outlets).wires j) ≡ of (wire_out outlets.wires j)
    with-kept there j = elim (cases_lt end 8) [
      | inl h ↦ ap (λ (o : OutletsRec). of (wire_out o.wires j)) (with-link h)
      | inr h ↦ ap (λ (o : OutletsRec). of (wire_out o.wires j)) (with-wire h) ∙ kept-same j (omega (arith, h, there.wire h))
    ]

-- where it is what it was, nothing changes
pub with-same : (outlets : OutletsRec) (end : EndNumber) → with_batch end (batch_by outlets end) outlets ≡ outlets
with-same outlets end = elim (cases_lt end 8) [
  | inl h ↦
      (λ i. with_batch end (sent-link outlets end h i) outlets) ∙ with-link outlets end (batch_at outlets.links end) h
      ∙ (λ i. record outlets { links = set-get_or outlets.links end no_batch i })
  | inr h ↦
      (λ i. with_batch end (sent-wire outlets end h i) outlets) ∙ with-wire outlets end (wire_out outlets.wires (end - 8)).batch h
      ∙ (λ i. record outlets { wires = set-get_or outlets.wires (end - 8) no_wire_out i })
]
