use Rattle.std.proofs.Common.{◌≡◌, length, ap, ◌∙◌}
use Rattle.xs_model.specs.FirstEvents.{first_events, left_out}
use Rattle.serial_model.specs.Serial.{SystemRec}
use Rattle.locality_laws.specs.Locality.{node_in, events_in}
use Rattle.core_step.specs.States.{node_state}
use Rattle.run_plan.specs.Machine.{system_of}
use Rattle.snap_parts.specs.declared.node.SnapNode.{SnapNode}
use Rattle.snap_model.specs.Saved.{saved_node}
use Rattle.snap_run.proofs.Runs.{is_serial}
use Rattle.snap_run.proofs.saved_nodes.saved_node.Goals as goal

pub returns : goal.returns
returns c =
    let m = c.args.machine.now in
    let n = c.args.n in
    let rec = node_in (system_of m) n in
    let events = events_in (system_of m) n in
    let keeps = c.events-events.ensures.keeps in
    let kept : length c.events.result.now ≡ length (first_events events) = ap length (c.events.ensures.value ∙ keeps.first) in
    let more : c.more.result ≡ left_out events = c.more.ensures ∙ keeps.rest in
    let state : c.state.new.out ≡ node_state rec = c.state.ensures.state rec c.core.ensures.stands.stands in
    let node : record { kept = length c.events.result.now; more = c.more.result; state = c.state.new.out } ≡ saved_node rec events =
    λ i. record { kept = kept i; more = more i; state = state i } in
    record {
      saved =
          node ∙ ap (λ (s : SystemRec). saved_node (node_in s n) (events_in s n)) (is_serial c.machines_are_serial.ensures.serial c.args.plan.now m c.requires.plan c.requires.start);
    }
