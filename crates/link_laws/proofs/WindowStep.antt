-- A slot of two nodes that are alike, and so many slots.
use Rattle.std.proofs.Common.{◌≡◌, zero, suc, ◌+◌, [], ◌∷◌, length, refl, ap, ap₂, sym, subst, arith}
use Rattle.xs_base.specs.Numbers.{Slot}
use Rattle.xs_base.specs.declared.numbers.TheConstants.{INPUTS}
use Rattle.xs_model.specs.declared.outside.Arrivals.{Arrivals}
use Rattle.xs_model.specs.declared.outside.PinView.{PinView}
use Rattle.xs_model.specs.Record.{NodeRec}
use Rattle.xs_model.specs.AtWork.{AtWork, slot_begins, emitted_in}
use Rattle.net_model.specs.Links.{arrive}
use Rattle.net_model.specs.Switch.{Routes, moves}
use Rattle.step_model.specs.Fixed.{Fixed}
use Rattle.step_model.specs.Step.{ports_step, issue, note_levels, after_phases, node_step}
use Rattle.link_laws.specs.Windows.{NodesAlike, IsNodeBefore, StepGoesByWindows, StepStaysBefore, run_from, RunGoesByWindows, RunStaysBefore}
use Rattle.link_laws.proofs.WindowLists.{all_begin, all_arrive, all_end, all_before_next, all_themselves}
use Rattle.link_laws.proofs.WindowMoves.{WorkAlike, Keeps, after, moves_so}

-- ---- The four phases

module _ (slot : Slot) where
  arrive_so : (arrivals : Arrivals) → Keeps slot (arrive slot arrivals)
  arrive_so arrivals m others h = record {
    links = _;
    alike = all_arrive slot arrivals.tokens arrivals.credits 0 m.rec.links others h;
    same = refl;
  }

  ports_so : (pins : PinView) → Keeps slot (ports_step slot pins)
  ports_so pins m others h = record { links = others; alike = h; same = refl }

  switch_so : (routes : Routes) → Keeps slot (moves routes slot)
  switch_so routes m others h = moves_so slot routes 0 INPUTS m others h

  issue_so : (fixed : Fixed) (pins : PinView) → Keeps slot (issue fixed slot pins)
  issue_so fixed pins m others h = record { links = others; alike = h; same = refl }

  levels_so : (pins : PinView) → Keeps slot (note_levels pins)
  levels_so pins m others h = record { links = others; alike = h; same = refl }

module _ (fixed : Fixed) (slot : Slot) (arrivals : Arrivals) (pins : PinView) where
  -- the other node as its slot begins, when it differs in its link ends alone
  same_but_links : (rec other : NodeRec) → NodesAlike rec other → other ≡ record rec { links = other.links }
  same_but_links rec other h = rw (h.core, h.inputs, h.levels) refl

  begun_so : (rec other : NodeRec) → IsNodeBefore slot rec → IsNodeBefore slot other → NodesAlike rec other →
      WorkAlike slot (slot_begins rec) (slot_begins other)
  begun_so rec other one two h = record {
    links = other.links;
    alike = all_begin slot rec.links other.links one two h.links;
    same = ap slot_begins (same_but_links rec other h);
  }

  phases_so : (rec other : NodeRec) → IsNodeBefore slot rec → IsNodeBefore slot other → NodesAlike rec other →
      WorkAlike slot (after_phases fixed rec slot arrivals pins) (after_phases fixed other slot arrivals pins)
  phases_so rec other one two h =
      let arrived = after slot (arrive slot arrivals) _ _ (arrive_so slot arrivals) (begun_so rec other one two h) in
      let edged = after slot (ports_step slot pins) _ _ (ports_so slot pins) arrived in
      let moved = after slot (moves fixed.routes slot) _ _ (switch_so slot fixed.routes) edged in
      let issued = after slot (issue fixed slot pins) _ _ (issue_so slot fixed pins) moved in
      after slot (note_levels pins) _ _ (levels_so slot pins) issued

-- nodes whose work was alike are alike, and gave the same
nodes_so : (slot : Slot) (m other : AtWork) → WorkAlike slot m other → NodesAlike m.rec other.rec
nodes_so slot m other h = subst (λ (other : AtWork). NodesAlike m.rec other.rec) (sym h.same) (record {
  core = refl;
  inputs = refl;
  levels = refl;
  links = all_end slot m.rec.links h.links h.alike;
})

pub step_by_windows : StepGoesByWindows
unfolding node_step
step_by_windows fixed rec other slot arrivals pins one two h =
    let so = phases_so fixed slot arrivals pins rec other one two h in
    record { emitted = ap (emitted_in slot) (sym so.same); alike = nodes_so slot _ _ so }

-- each node is alike itself
itself : (rec : NodeRec) → NodesAlike rec rec
itself rec = record { core = refl; inputs = refl; levels = refl; links = all_themselves rec.links }

pub step_stays_before : StepStaysBefore
unfolding node_step
step_stays_before fixed rec slot arrivals pins before =
    let so = phases_so fixed slot arrivals pins rec rec before before (itself rec) in
    all_before_next slot (after_phases fixed rec slot arrivals pins).rec.links so.links so.alike

-- ---- So many slots

pub run_by_windows : RunGoesByWindows
unfolding run_from
run_by_windows fixed rec other slot [] one two h = record { emitted = refl; alike = h }
run_by_windows fixed rec other slot (coming ∷ later) one two h =
    let step = node_step fixed rec slot coming.arrivals coming.pins in
    let its = node_step fixed other slot coming.arrivals coming.pins in
    let so = step_by_windows fixed rec other slot coming.arrivals coming.pins one two h in
    let one_next = step_stays_before fixed rec slot coming.arrivals coming.pins one in
    let two_next = step_stays_before fixed other slot coming.arrivals coming.pins two in
    let rest = run_by_windows fixed step.rec its.rec (slot + 1) later one_next two_next so.alike in
    record { emitted = ap₂ (λ given all. given ∷ all) so.emitted rest.emitted; alike = rest.alike }

pub run_stays_before : RunStaysBefore
unfolding run_from
run_stays_before fixed rec slot [] before =
    let e : slot ≡ slot + zero = omega arith in subst (λ n. IsNodeBefore n rec) e before
run_stays_before fixed rec slot (coming ∷ later) before =
    let step = node_step fixed rec slot coming.arrivals coming.pins in
    let next = step_stays_before fixed rec slot coming.arrivals coming.pins before in
    let rest = run_stays_before fixed step.rec (slot + 1) later next in
    let e : slot + 1 + length later ≡ slot + suc (length later) = omega arith in
    subst (λ n. IsNodeBefore n (run_from fixed (slot + 1) later step.rec).rec) e rest
