use Rattle.std.proofs.Common.{◌≡◌, length}
use Rattle.trace_merge.specs.Nodes.{events_of}
use Rattle.snap_model.specs.Rest.{kept_after}
use Rattle.snap_run.proofs.went_on.cut_all.Given as goal

abbrev pub invariant-loop-events : goal.invariant-loop-events
invariant-loop-events l = record {
  cut : events_of l.kept.items ≡ kept_after l.nodes (events_of l.yielded);
  count : length l.kept.items ≡ length l.yielded;
}
