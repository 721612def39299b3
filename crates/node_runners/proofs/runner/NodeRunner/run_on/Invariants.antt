use Rattle.std.proofs.Common.{◌≡◌, ◌≤◌, ◌-◌}
use Rattle.node_runners.specs.Busy.{HasSteppedBusy}
use Rattle.node_runners.proofs.runner.NodeRunner.run_on.Given as goal

abbrev pub invariant-loop-end : goal.invariant-loop-end
invariant-loop-end l = record {
  rest : l.self ≡ record l.fn.self { clock = l.self.clock; stepped = l.self.stepped };
  on : l.fn.self.clock ≤ l.self.clock;
  busy : HasSteppedBusy l.self;
}

abbrev pub decreases-loop-end : goal.decreases-loop-end
decreases-loop-end l = l.self.horizon.limit - l.self.clock
