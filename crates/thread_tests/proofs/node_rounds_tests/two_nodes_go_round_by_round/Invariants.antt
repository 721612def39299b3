use Rattle.std.proofs.Common.{◌≡◌, length}
use Rattle.thread_tests.proofs.node_rounds_tests.two_nodes_go_round_by_round.Given as goal

abbrev pub invariant-loop-clock : goal.invariant-loop-clock
invariant-loop-clock g l = length l.run.plan.nodes ≡ 2
