-- A quiet slot of a node: its ports count, what its pins show is noted, and nothing else happens.
use Rattle.std.proofs.Common.{◌≡◌, true, false, not, ◌||◌, None, sym, ap, ◌∙◌}
use Rattle.std.proofs.lemmas.Bool.{not-false, and_parts, or_parts}
use Rattle.xs_base.specs.Numbers.{Slot}
use Rattle.xs_model.specs.declared.outside.PinView.{PinView}
use Rattle.xs_model.specs.Record.{NodeRec}
use Rattle.xs_model.specs.AtWork.{AtWork, slot_begins, emitted_in}
use Rattle.xs_model.specs.Picks.{picked}
use Rattle.net_model.specs.Links.{arrive}
use Rattle.net_model.specs.Switch.{moves}
use Rattle.step_model.specs.Fixed.{Fixed}
use Rattle.step_model.specs.Step.{Stepped, after_edges, ports_step, setting_of, issued_by, and_issued, issue, note_levels, after_phases, node_step}
use Rattle.quiet_model.specs.Still.{network_is_still, ports_are_still, still}
use Rattle.quiet_model.specs.Stirs.{some_eligible, ports_stir, stirs}
use Rattle.quiet_laws.specs.Undisturbed.{no_arrivals, IsWhole, ShowsAll}
use Rattle.quiet_laws.specs.Quiet.{core_counted, only_counted, QuietSlotOnlyCounts}
use Rattle.quiet_laws.proofs.Network.{links_stay, moves_nothing}
use Rattle.quiet_laws.proofs.Ports.{ports_only_count, levels_stay}
use Rattle.quiet_laws.proofs.Threads.{some_alike, none_picked}

-- a node that does not stir is still, none of its threads may issue, and no transfer of its ports begins
record IsQuiet (rec : NodeRec) (slot : Slot) : Type 0 where
  network : network_is_still rec.core.chans rec.links rec.inputs ≡ true
  ports : ports_are_still rec.core.ports ≡ true
  threads : some_eligible rec.core slot ≡ false
  transfers : ports_stir rec.core.clocks slot rec.core.ports ≡ false

is_quiet : (rec : NodeRec) (slot : Slot) → stirs rec slot ≡ false → IsQuiet rec slot
is_quiet rec slot none =
    let parts = or_parts (not (still rec)) (some_eligible rec.core slot || ports_stir rec.core.clocks slot rec.core.ports) none in
    let stills = and_parts (network_is_still rec.core.chans rec.links rec.inputs) (ports_are_still rec.core.ports) (not-false (still rec) parts.0) in
    let nones = or_parts (some_eligible rec.core slot) (ports_stir rec.core.clocks slot rec.core.ports) parts.1 in
    record { network = stills.0; ports = stills.1; threads = nones.0; transfers = nones.1 }

module _ (fixed : Fixed) (rec : NodeRec) (slot : Slot) (pins : PinView) (whole : IsWhole rec.core) (all : ShowsAll pins) (quiet : IsQuiet rec slot) where
  -- the node after phase 2
  abbrev edged : NodeRec
  edged = record rec { core = core_counted slot 1 rec.core }

  phase_1 : arrive slot no_arrivals (slot_begins rec) ≡ slot_begins rec
  phase_1 = ap (λ links. slot_begins (record rec { links = links })) (links_stay slot 0 rec.links)

  phase_2 : ports_step slot pins (slot_begins rec) ≡ slot_begins edged
  phase_2 =
      ap (after_edges (slot_begins rec)) (ports_only_count slot rec.core.clocks rec.levels 0 rec.core.ports pins.level (all ∙ sym whole.ports) quiet.ports quiet.transfers)

  phase_3 : moves fixed.routes slot (slot_begins edged) ≡ slot_begins edged
  phase_3 = moves_nothing (slot_begins edged) quiet.network fixed.routes slot

  no_issue : picked edged.core slot ≡ None
  no_issue = none_picked edged.core slot whole.last (some_alike slot 1 rec.core slot ∙ quiet.threads)

  phase_4 : issue fixed slot pins (slot_begins edged) ≡ slot_begins edged
  phase_4 = ap (λ who. and_issued (slot_begins edged) (issued_by fixed.code (setting_of fixed slot pins edged) edged.core who)) no_issue

  noted : note_levels pins (slot_begins edged) ≡ slot_begins (only_counted slot 1 pins rec)
  noted =
      ap (λ levels. slot_begins (record edged { levels = levels })) (levels_stay rec.core.clocks slot 1 rec.core.ports pins.level)

  all_phases : after_phases fixed rec slot no_arrivals pins ≡ slot_begins (only_counted slot 1 pins rec)
  all_phases =
      ap (λ m. note_levels pins (issue fixed slot pins (moves fixed.routes slot (ports_step slot pins m)))) phase_1
      ∙ ap (λ m. note_levels pins (issue fixed slot pins (moves fixed.routes slot m))) phase_2
      ∙ ap (λ m. note_levels pins (issue fixed slot pins m)) phase_3
      ∙ ap (note_levels pins) phase_4
      ∙ noted

pub quiet_slot : QuietSlotOnlyCounts
unfolding node_step
quiet_slot fixed rec slot pins whole all none =
    ap (λ (m : AtWork). let s : Stepped = record { rec = m.rec; emitted = emitted_in slot m } in s) (all_phases fixed rec slot pins whole all (is_quiet rec slot none))
