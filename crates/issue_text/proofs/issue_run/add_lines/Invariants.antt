use Rattle.std.proofs.Common.{◌+◌, ◌≤◌, take}
use Rattle.issue_model.specs.Issues.{node_lines, nodes_lines}
use Rattle.issue_text.specs.Kept.{Adds}
use Rattle.issue_text.specs.NodeSlots.{numbers_of}
use Rattle.issue_text.proofs.issue_run.add_lines.Given as goal

abbrev pub invariant-loop-n : goal.invariant-loop-n
invariant-loop-n l = record {
  lines : Adds l.initial.kept l.kept (nodes_lines (node_lines l.run.plan (numbers_of l.sources) l.slot) 0 (take l.n l.run.plan.nodes));
  count : l.kept.count ≤ l.initial.kept.count + l.n;
}
