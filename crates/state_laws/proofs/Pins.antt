-- Ports, and what the pins show, stay as they may be.
use Rattle.std.proofs.Common.{◌≡◌, ℕ, zero, suc, ◌+◌, ◌<◌, ◌^◌, Option, Some, None, List, [], ◌∷◌, get_or, slice_set, replicate, sym, ap, subst, arith}
use Rattle.std.proofs.lemmas.Nat.{pow_pos}
use Rattle.std.specs.Prelude.{IfSome}
use Rattle.std.specs.List.{AllByRecursion}
use Rattle.xs_base.specs.Numbers.{Slot, Word, PortNumber, ThreadNumber}
use Rattle.xs_base.specs.Ids.{port_width}
use Rattle.xs_model.specs.declared.outside.Arrivals.{Arrivals}
use Rattle.xs_model.specs.declared.outside.PinView.{PinView}
use Rattle.xs_model.specs.Outside.{LevelsFit, LevelsFitFrom}
use Rattle.xs_model.specs.Record.{CoreRec, NodeRec, PortRec, off_port, port_of}
use Rattle.xs_model.specs.Ports.{level_of, levels_of, edges_from}
use Rattle.xs_model.specs.PortActions.{Acted, Did, Got, Waits, Refused, restarted}
use Rattle.xs_instructions.specs.Instr.{InRange}
use Rattle.port_laws.specs.Facts.{HasFacts, is_off, is_on}
use Rattle.port_laws.specs.Ports.{LeavesFacts, AllHaveFacts}
use Rattle.port_laws.proofs.Edges.{slot_keeps}
use Rattle.port_laws.proofs.Rows.{rows_keep}
use Rattle.step_model.specs.Effect.{Setting}
use Rattle.step_model.specs.Fixed.{Fixed}
use Rattle.step_model.specs.Step.{setting_of, before_issue, issued, node_step}
use Rattle.state_laws.specs.Facts.{IsSet, PinsFit, IsPlanned}
use Rattle.state_laws.specs.Laws.{IsSoAtFirst, StaysSoAsPlanned}
use Rattle.state_laws.proofs.Changes.{Change, PortRow, Leaves}
use Rattle.state_laws.proofs.Changes as change
use Rattle.state_laws.proofs.Issue.{issue_keeps}
use Rattle.state_laws.proofs.Lists.{Placed, is_old, is_new, placed, map_at, many_at}
use Rattle.state_laws.proofs.Settings.{off_set, LeavesSet, row_set, restarted_set, edges_set}
use Rattle.state_laws.proofs.Switch.{core_before}

abbrev FitsAt : PortNumber → PortRec → Type 0
FitsAt p port = HasFacts (port_width p) port × IsSet p port

abbrev AllFit : List PortRec → Type 0
AllFit ports = (p : PortNumber) → FitsAt p (get_or ports p off_port)

off_fits : (p : PortNumber) → FitsAt p off_port
off_fits p = (is_off, off_set p)

-- ---- Rows

row_facts : (S : Type 0) → S → (p : PortNumber) (port : PortRec) → HasFacts (port_width p) port → (acted : Acted) → PortRow S p port acted → LeavesFacts (port_width p) acted
row_facts S s p port h _ (change.mode x) = (rows_keep p port h).mode x
row_facts S s p port h _ (change.clock clock is) = (rows_keep p port h).clock clock
row_facts S s p port h _ (change.strobe strobe is) = (rows_keep p port h).strobe strobe
row_facts S s p port h _ (change.transfer_width x) = (rows_keep p port h).transfer_width x
row_facts S s p port h _ (change.value x) = (rows_keep p port h).value x
row_facts S s p port h _ (change.time x) = (rows_keep p port h).time x
row_facts S s p port h _ change.no_time = (rows_keep p port h).no_time
row_facts S s p port h _ change.told_value = (rows_keep p port h).told_value
row_facts S s p port h _ change.told_stamp = (rows_keep p port h).told_stamp
row_facts S s p port h _ (change.peeked outside) = (rows_keep p port h).peeked outside
row_facts S s p port h _ change.taken = (rows_keep p port h).taken
row_facts S s p port h _ (change.part_taken bits some) = (rows_keep p port h).part_taken bits (some s)
row_facts S s p port h _ change.ended = (rows_keep p port h).ended
row_facts S s p port h _ (change.put word) = (rows_keep p port h).put word
row_facts S s p port h _ (change.part_put bits word some) = (rows_keep p port h).part_put bits word (some s)
row_facts S s p port h _ change.synced = (rows_keep p port h).synced
row_facts S s p port h _ change.refused = tt

left_fits : (p : PortNumber) (acted : Acted) (after : PortRec) → LeavesFacts (port_width p) acted → LeavesSet p acted → Leaves acted after → FitsAt p after
left_fits p (Did port what) after facts set left = subst (FitsAt p) (sym left) (facts, set)
left_fits p (Got port word) after facts set left = subst (FitsAt p) (sym left) (facts, set)
left_fits p (Waits port wait what) after facts set left = subst (FitsAt p) (sym left) (facts, set)
left_fits p Refused after facts set left = absurd left

row_fits : (S : Type 0) → S → (p : PortNumber) (port : PortRec) (acted : Acted) (after : PortRec) → PortRow S p port acted → Leaves acted after → FitsAt p port → FitsAt p after
row_fits S s p port acted after row left h = left_fits p acted after (row_facts S s p port h.0 acted row) (row_set p port h.1 S acted row) left

set_fits : (ports : List PortRec) (q : PortNumber) (port : PortRec) → AllFit ports → FitsAt q port → AllFit (slice_set ports q port)
set_fits ports q port all new p = by (placed off_port ports q port p)
  where
    by : Placed off_port ports q port p → FitsAt p (get_or (slice_set ports q port) p off_port)
    by (is_old same) = subst (FitsAt p) (sym same) (all p)
    by (is_new here is) = subst (FitsAt p) (sym is) (subst (λ (n : ℕ). FitsAt n port) (sym here) new)

restarted_fits : (n : ℕ) (p : PortNumber) (port : PortRec) → FitsAt p port → FitsAt p (restarted n port)
restarted_fits n p port h = ((rows_keep p port h.0).clock_started n, restarted_set p port h.1 n)

change_ports : (S : Type 0) → S → (here : Setting) (k : ThreadNumber) (core after : CoreRec) → Change S here k core after → AllFit core.ports → AllFit after.ports
change_ports S s here k core _ (change.sets j th is) h = h
change_ports S s here k core _ (change.stores memory) h = h
change_ports S s here k core _ change.issues h = h
change_ports S s here k core _ (change.frees_itself is) h = h
change_ports S s here k core _ (change.lets_slaves_go n) h = h
change_ports S s here k core _ (change.frees_slaves n) h = h
change_ports S s here k core _ (change.gets_thread j is) h = h
change_ports S s here k core _ (change.gets_slave j n is master) h = h
change_ports S s here k core _ (change.gets_sync n) h = h
change_ports S s here k core _ (change.frees_sync n) h = h
change_ports S s here k core _ (change.sets_lock n lock is) h = h
change_ports S s here k core _ (change.sets_timer n timer) h = h
change_ports S s here k core _ (change.sets_clock n clock) h = h
change_ports S s here k core _ (change.sets_chan c chan is) h = h
change_ports S s here k core _ (change.sets_port p acted port there row left) h =
    set_fits core.ports p port h (row_fits S s p (port_of core p) acted port row left (h p))
change_ports S s here k core _ (change.starts_clock n) h = λ p. map_at (FitsAt p) off_port (restarted n) core.ports p (restarted_fits n p) (h p)
change_ports S s here k core _ (change.sets_enabled enabled is) h = h
change_ports S s here k core _ change.divides h = h

-- ---- Edges: one port after another

facts_of_all : (n : PortNumber) (ports : List PortRec) (i p : ℕ) → n + i ≡ p → AllHaveFacts n ports → HasFacts (port_width p) (get_or ports i off_port)
facts_of_all n [] i p e all = is_off
facts_of_all n (port ∷ ports) zero p e all =
    let same : n ≡ p = omega (arith, e) in subst (λ (m : ℕ). HasFacts (port_width m) port) same all.0
facts_of_all n (port ∷ ports) (suc i) p e all = facts_of_all (n + 1) ports i p (omega (arith, e)) all.1

all_facts : (n : PortNumber) (ports : List PortRec) → ((i : ℕ) → HasFacts (port_width (n + i)) (get_or ports i off_port)) → AllHaveFacts n ports
all_facts n [] each = tt
all_facts n (port ∷ ports) each = (
  let same : n + 0 ≡ n = omega arith in subst (λ (m : ℕ). HasFacts (port_width m) port) same (each 0),
  all_facts (n + 1) ports (λ i. let same : n + suc i ≡ n + 1 + i = omega arith in subst (λ (m : ℕ). HasFacts (port_width m) (get_or ports i off_port)) same (each (suc i))),
)

from_zero : (ports : List PortRec) → AllFit ports → AllHaveFacts 0 ports
from_zero ports all =
    all_facts 0 ports (λ i. let same : i ≡ 0 + i = omega arith in subst (λ (m : ℕ). HasFacts (port_width m) (get_or ports i off_port)) same (all i).0)

edges_fit : (slot : Slot) (core : CoreRec) (levels outside : List Word) → LevelsFit outside → AllFit core.ports → AllFit (edges_from slot core.clocks levels 0 core.ports outside).ports
edges_fit slot core levels outside fit all p = (
  facts_of_all 0 (edges_from slot core.clocks levels 0 core.ports outside).ports p p (omega arith) (slot_keeps slot core.clocks levels 0 core.ports outside fit (from_zero core.ports all)),
  edges_set p slot core.clocks levels 0 core.ports outside p (all p).1,
)

-- ---- What the pins show

driven_fits : (w : ℕ) (port : PortRec) → HasFacts w port → IfSome port.driven (λ value. value < 2 ^ w)
driven_fits w _ is_off = tt
driven_fits w _ (is_on port is) = is.driven

level_fits : (w : ℕ) (driven : Option Word) (outside : Word) → IfSome driven (λ value. value < 2 ^ w) → outside < 2 ^ w → level_of driven outside < 2 ^ w
level_fits w None outside is fits = fits
level_fits w (Some value) outside is fits = is

shown_fits : (n : PortNumber) (ports : List PortRec) (outside : List Word) → AllHaveFacts n ports → LevelsFitFrom n outside → LevelsFitFrom n (levels_of ports outside)
shown_fits n [] outside all fit = tt
shown_fits n (port ∷ ports) [] all fit = tt
shown_fits n (port ∷ ports) (o ∷ outside) all fit =
    (level_fits (port_width n) port.driven o (driven_fits (port_width n) port all.0) fit.0, shown_fits (n + 1) ports outside all.1 fit.1)

low_fits : (n : PortNumber) (count : ℕ) → LevelsFitFrom n (replicate count 0)
low_fits n zero = tt
low_fits n (suc count) = (pow_pos (port_width n), low_fits (n + 1) count)

-- ---- The laws

pub first_pins : IsSoAtFirst (λ rec. PinsFit rec)
first_pins plan gaps = record {
  ports = λ p. many_at (FitsAt p) off_port 29 off_port p (off_fits p) (off_fits p);
  levels = low_fits 0 29;
}

module _ (fixed : Fixed) (rec : NodeRec) (slot : Slot) (arrivals : Arrivals) (pins : PinView) (planned : IsPlanned fixed) (fit : LevelsFit pins.level) (h : PinsFit rec) where
  abbrev before : NodeRec
  before = (before_issue fixed rec slot arrivals pins).rec

  abbrev here : Setting
  here = setting_of fixed slot pins before

  before_fits : AllFit before.core.ports
  before_fits =
      let same : before.core.ports ≡ (edges_from slot rec.core.clocks rec.levels 0 rec.core.ports pins.level).ports =
      ap (λ (core : CoreRec). core.ports) (core_before fixed rec slot arrivals pins) in
      subst AllFit (sym same) (edges_fit slot rec.core rec.levels pins.level fit h.ports)

  after_fits : AllFit (issued fixed.code here before.core).core.ports
  after_fits =
      issue_keeps fixed.code here before.core (λ core. AllFit core.ports)
      (λ k core after changes. change_ports (AllByRecursion InRange fixed.code) planned.code here k core after changes) before_fits

  after_shows : LevelsFit (levels_of (issued fixed.code here before.core).core.ports pins.level)
  after_shows = shown_fits 0 _ pins.level (from_zero _ after_fits) fit

pub slot_pins : StaysSoAsPlanned (λ gaps slot rec. PinsFit rec)
unfolding node_step
slot_pins fixed rec slot arrivals pins planned fit h = record {
  ports = after_fits fixed rec slot arrivals pins planned fit h;
  levels = after_shows fixed rec slot arrivals pins planned fit h;
}
