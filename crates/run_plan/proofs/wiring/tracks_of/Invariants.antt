use Rattle.std.proofs.Common.{◌≡◌, take}
use Rattle.sys_plan.specs.Plan.{link_arcs}
use Rattle.run_plan.specs.Starts.{tracks_at_start}
use Rattle.run_plan.proofs.wiring.tracks_of.Given as goal

abbrev pub invariant-loop-link : goal.invariant-loop-link
invariant-loop-link l = record { start : l.tracks.items ≡ tracks_at_start (link_arcs (take l.link-index l.plan.links)) }
