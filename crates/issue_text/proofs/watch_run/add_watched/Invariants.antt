use Rattle.std.proofs.Common.{ℕ, ◌+◌, ◌≤◌, List, take}
use Rattle.issue_model.specs.Issues.{nodes_lines}
use Rattle.issue_model.specs.Watch.{node_watched}
use Rattle.issue_text.specs.Kept.{Adds}
use Rattle.issue_text.specs.NodeSlots.{numbers_of}
use Rattle.issue_text.specs.Words.{AreKept}
use Rattle.issue_text.proofs.watch_run.add_watched.Given as goal

abbrev pub invariant-loop-n : goal.invariant-loop-n
invariant-loop-n l = record {
  lines : (addresses : List ℕ) → AreKept l.run.plan l.slot addresses l.words
      → Adds l.initial.kept l.kept (nodes_lines (node_watched l.run.plan (numbers_of l.sources) addresses l.slot) 0 (take l.n l.run.plan.nodes));
  count : l.kept.count ≤ l.initial.kept.count + l.n;
}
