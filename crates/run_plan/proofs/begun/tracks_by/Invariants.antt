use Rattle.std.proofs.Common.{length, map, take}
use Rattle.sys_plan.specs.Plan.{link_arcs}
use Rattle.snap_parts.specs.Parts.{seen}
use Rattle.run_plan.specs.Begins.{AllBegin, LinkBegins}
use Rattle.run_plan.proofs.begun.tracks_by.Given as goal

abbrev pub invariant-loop-link : goal.invariant-loop-link
invariant-loop-link l = record {
  begin : AllBegin (LinkBegins l.snap.slot) 0 (link_arcs (take l.link-index l.plan.links)) (take (length l.tracks.items) (map seen l.snap.logs.items)) l.tracks.items;
}
