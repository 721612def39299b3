use Rattle.std.proofs.Common.{◌≡◌, ◌≤◌, ◌-◌}
use Rattle.run_plan.proofs.machine.SerialMachine.run.Given as goal

abbrev pub invariant-loop-self : goal.invariant-loop-self
invariant-loop-self l = record {
  plan : l.self.plan ≡ l.initial.self.plan;
  begun : l.self.begun ≡ l.initial.self.begun;
  on : l.initial.self.now ≤ l.self.now;
  bound : l.self.now ≤ l.limit;
}

abbrev pub decreases-loop-self : goal.decreases-loop-self
decreases-loop-self l = l.limit - l.self.now
