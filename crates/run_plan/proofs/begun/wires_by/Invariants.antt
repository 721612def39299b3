use Rattle.std.proofs.Common.{length, map, take}
use Rattle.std.specs.Prelude.{drop}
use Rattle.sys_plan.specs.Plan.{link_arcs}
use Rattle.snap_parts.specs.Parts.{seen}
use Rattle.run_plan.specs.Passes.{cores_of}
use Rattle.run_plan.specs.Begins.{AllBegin, WireBeginsBy}
use Rattle.run_plan.proofs.begun.wires_by.Given as goal

abbrev pub invariant-loop-wire : goal.invariant-loop-wire
invariant-loop-wire l = record {
  begin :
      AllBegin (WireBeginsBy l.snap.slot (cores_of l.stations)) 0 (take l.wire-index l.plan.wires) (take l.wire-index (drop (length (link_arcs l.plan.links)) (map seen l.snap.logs.items))) l.wires.items;
}
