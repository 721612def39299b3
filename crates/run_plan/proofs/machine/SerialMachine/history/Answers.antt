use Rattle.std.proofs.Common.{◌-◌, ◌<◌, List, [], length, ap, sym, ◌∙◌, arith}
use Rattle.std.specs.Prelude.{slice_index_or}
use Rattle.xs_base.specs.declared.entry.Entry.{Entry}
use Rattle.sys_plan.specs.Plan.{arc_count, link_arcs, wire_arcs}
use Rattle.sys_plan.proofs.Told.{arcs-count}
use Rattle.sys_plan.proofs.Wires.{wires_length}
use Rattle.run_plan.specs.declared.track.Track.{Track}
use Rattle.run_plan.specs.declared.wire.Wire.{Wire}
use Rattle.run_plan.specs.Machine.{MachineRec, system_of}
use Rattle.run_plan.specs.Inside.{begun_with, seen_of}
use Rattle.run_plan.proofs.Ends.{front-at, back-at}
use Rattle.run_plan.proofs.Systems.{carry-at, carry-length, histories-length, tell-at, tell-length}
use Rattle.run_plan.proofs.machine.SerialMachine.history.Goals as goal

pub index-wire-requires : goal.index-wire-requires
index-wire-requires c =
    let plan = c.self.inside.plan.value in
    let s = c.self.invariant.ready.system in
    omega (
      arith,
      tell-length (begun_with c.self.inside).shown (system_of (seen_of c.self.inside)).nodes (length (link_arcs plan.links)) (wire_arcs [] plan.wires) c.self.inside.wires.items s.wire_histories s.tell,
      carry-length (link_arcs plan.links) c.self.inside.tracks.items s.link_histories s.carry,
      arcs-count plan,
      wires_length [] plan.wires,
      ap (λ (m : MachineRec). arc_count m.plan) c.self.view_is,
      c.requires.link,
      c.if-link-directed.false,
      c.len-directed.ensures,
    )

pub returns-then-link-directed : goal.returns-then-link-directed
returns-then-link-directed c =
    let plan = c.self.inside.plan.value in
    let s = c.self.invariant.ready.system in
    let many = carry-length (link_arcs plan.links) c.self.inside.tracks.items s.link_histories s.carry in
    let long = histories-length (link_arcs plan.links) c.self.inside.tracks.items s.link_histories s.carry in
    let at = carry-at (link_arcs plan.links) c.self.inside.tracks.items s.link_histories c.args.link c.index-track.result.now s.carry (omega (arith, many, c.if-link-directed.true, c.len-directed.ensures)) in
    record {
      value =
          c.entries.ensures.value
          ∙ ap (λ (t : Track). t.history.entries) c.index-track.ensures
          ∙ at
          ∙ sym (front-at s.link_histories s.wire_histories c.args.link [] (omega (arith, many, long, c.if-link-directed.true, c.len-directed.ensures)))
          ∙ ap (λ (hs : List (List Entry)). slice_index_or hs c.args.link []) (sym s.histories)
          ∙ ap (λ (m : MachineRec). slice_index_or (system_of m).histories c.args.link []) c.self.view_is;
    }

pub returns-else-link-directed : goal.returns-else-link-directed
returns-else-link-directed c =
    let plan = c.self.inside.plan.value in
    let s = c.self.invariant.ready.system in
    let k = c.args.link - c.len-directed.result in
    let many = carry-length (link_arcs plan.links) c.self.inside.tracks.items s.link_histories s.carry in
    let long = histories-length (link_arcs plan.links) c.self.inside.tracks.items s.link_histories s.carry in
    let inside : k < length (wire_arcs [] plan.wires) =
    omega (arith, many, arcs-count plan, wires_length [] plan.wires, ap (λ (m : MachineRec). arc_count m.plan) c.self.view_is, c.requires.link, c.if-link-directed.false, c.len-directed.ensures) in
    let at = tell-at (begun_with c.self.inside).shown (system_of (seen_of c.self.inside)).nodes (length (link_arcs plan.links)) (wire_arcs [] plan.wires) c.self.inside.wires.items s.wire_histories k c.index-wire.result.now s.tell inside in
    record {
      value =
          c.entries-else-link-directed.ensures.value
          ∙ ap (λ (w : Wire). w.history.entries) c.index-wire.ensures
          ∙ at
          ∙ sym (back-at s.link_histories s.wire_histories c.args.link k [] (omega (arith, many, long, c.if-link-directed.false, c.len-directed.ensures)))
          ∙ ap (λ (hs : List (List Entry)). slice_index_or hs c.args.link []) (sym s.histories)
          ∙ ap (λ (m : MachineRec). slice_index_or (system_of m).histories c.args.link []) c.self.view_is;
    }
