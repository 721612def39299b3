-- The phases of a slot before its issue: what they make of a core's fields is what they make of the node for which it stands.
use Rattle.std.proofs.Common.{◌≡◌, ℕ, List, [], sym, refl, ap, subst, ◌∙◌}
use Rattle.xs_base.specs.Numbers.{Slot, Word}
use Rattle.xs_model.specs.declared.outside.Arrivals.{Arrivals}
use Rattle.xs_model.specs.declared.outside.PinView.{PinView}
use Rattle.xs_model.specs.Record.{CoreRec, NodeRec}
use Rattle.xs_model.specs.Outside.{Emitted, emitted_events}
use Rattle.xs_model.specs.AtWork.{AtWork, emitted_in}
use Rattle.xs_model.specs.Ports.{edges_from}
use Rattle.buffered_ports.specs.Keeps.{HighAre}
use Rattle.net_model.specs.Switch.{Routes}
use Rattle.switch_routes.specs.Rows.{SentBy}
use Rattle.step_model.specs.Fixed.{Fixed}
use Rattle.step_model.specs.Step.{before_issue}
use Rattle.processor.specs.Issue.{and_happened}
use Rattle.core_step.specs.Core.{CoreValue, StandsAt, SlotsBefore}
use Rattle.core_step.specs.ToIssue.{ReachesIssue}
use Rattle.core_step.specs.Network.{NetworkRec, NetworkStands, Brings, routes_of}
use Rattle.core_step.specs.declared.node_core.Core.TheInside.{Inside}
use Rattle.core_step.specs.PinLevels.{levels_kept}
use Rattle.core_step.specs.Inside.{value_of}
use Rattle.core_step.proofs.Slot.{begins, edged, sent_by}

-- what these phases make of a core with these fields: the edges of the ports, and what the network brings
pub record GoesToIssue (s : Inside) (slot : Slot) (arrivals : Arrivals) (pins : PinView) : Type 0 where
  pub before : SlotsBefore (value_of s) slot
  pub high : ℕ
  pub strobes : HighAre high s.units.ports (levels_kept s.units.ports s.levels)
  pub edged_core : CoreRec
  pub edged_out : Emitted
  pub ports : (levels : List Word) → HighAre high s.units.ports levels →
      edged_core ≡ record s.units { ports = (edges_from slot s.units.clocks levels 0 s.units.ports pins.level).ports }
  pub edges : (levels : List Word) → HighAre high s.units.ports levels →
      edged_out ≡ and_happened (emitted_events []) slot (edges_from slot s.units.clocks levels 0 s.units.ports pins.level).happened
  pub network : NetworkRec
  pub brought : CoreRec
  pub brought_out : Emitted
  pub brings : (m : AtWork) → NetworkStands slot s.network edged_core.chans edged_out m → Brings slot arrivals (routes_of s.network) network brought.chans brought_out m
  pub units : brought ≡ record edged_core { chans = brought.chans }
  pub routes : routes_of network ≡ routes_of s.network
  pub sent : SentBy slot s.network.links → SentBy slot network.links

module _ (s : Inside) (slot : Slot) (arrivals : Arrivals) (pins : PinView) (p : GoesToIssue s slot arrivals pins) where
  module _ (rec : NodeRec) (at : StandsAt (value_of s) rec slot) where
    -- the strobes that it finds high are those that were high in the node
    high_is : HighAre p.high s.units.ports rec.levels
    high_is = subst (HighAre p.high s.units.ports) at.stands.levels p.strobes

    -- the units after the edges, and what was given by them, are those of the node
    edged_is : p.edged_core ≡ (edged rec slot pins).rec.core
    edged_is =
        p.ports rec.levels high_is
        ∙ ap (λ (core : CoreRec). record core { ports = (edges_from slot core.clocks rec.levels 0 core.ports pins.level).ports }) at.stands.core

    gave_edges : p.edged_out ≡ emitted_in slot (edged rec slot pins)
    gave_edges =
        p.edges rec.levels high_is
        ∙ ap (λ (core : CoreRec). and_happened (emitted_events []) slot (edges_from slot core.clocks rec.levels 0 core.ports pins.level).happened) at.stands.core

    -- what the network brings to the node
    brings_it : Brings slot arrivals (routes_of s.network) p.network p.brought.chans p.brought_out (edged rec slot pins)
    brings_it =
        p.brings (edged rec slot pins)
        (begins (value_of s).fixed s.units s.levels s.network rec slot pins p.edged_core.chans p.edged_out at
        (ap (λ (core : CoreRec). core.chans) edged_is ∙ sym (ap (λ (core : CoreRec). core.chans) at.stands.core)) gave_edges)

    -- but for its channel ends, the core that issues is the node's
    core_is : p.brought ≡ record (edged rec slot pins).rec.core { chans = p.brought.chans }
    core_is = p.units ∙ ap (λ (core : CoreRec). record core { chans = p.brought.chans }) edged_is

    -- and with them too
    brought_is : p.brought ≡ (before_issue (value_of s).fixed rec slot arrivals pins).rec.core
    brought_is = core_is ∙ sym (ap (λ (r : NodeRec). r.core) brings_it.rest)

  -- what contracts see of the core after these phases
  abbrev pub value_to_issue : CoreValue
  value_to_issue = record {
    fixed = record { edition = s.program.edition; code = s.program.code; routes = routes_of p.network };
    core = p.brought;
    levels = s.levels;
    inputs = p.network.switch.inputs;
    links = p.network.links;
  }

  pub reaches : ReachesIssue slot arrivals pins (value_of s) value_to_issue p.brought_out
  reaches = record {
    fixed = ap (λ (routes : Routes). let f : Fixed = record { edition = s.program.edition; code = s.program.code; routes = routes } in f) p.routes;
    levels = refl;
    sent = p.sent (sent_by slot s.network.links p.before);
    stands =
        λ rec at.
        let b = (brings_it rec at).stands in
        record { core = brought_is rec at; inputs = b.parts.inputs; links = b.parts.links; credited = b.parts.credited; emitted = b.emitted };
  }
