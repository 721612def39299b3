use Rattle.std.proofs.Common.{◌≡◌, ◌-◌}
use Rattle.ahead_limits.specs.Schedule.{clock_after}
use Rattle.run_drive.proofs.stage.run_slots.Given as goal

-- only the clock and the count of slots change, and the slots that are left lead from it to where all lead
abbrev pub invariant-loop : goal.invariant-loop
invariant-loop l = record {
  rest : l.runner ≡ record l.fn.runner { clock = l.runner.clock; stepped = l.runner.stepped };
  leads : clock_after l.fn.runner.horizon (l.count - l.counter) l.runner.clock ≡ clock_after l.fn.runner.horizon l.count l.fn.runner.clock;
}
