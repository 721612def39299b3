use Rattle.std.proofs.Common.{take}
use Rattle.state_laws.specs.Runs.{RunInRange}
use Rattle.snap_run.proofs.savable.code_is_in_range.Given as goal

abbrev pub invariant-loop-node : goal.invariant-loop-node
invariant-loop-node l = RunInRange (take l.node-index l.nodes)
