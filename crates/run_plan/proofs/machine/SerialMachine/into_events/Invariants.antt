use Rattle.std.proofs.Common.{◌≡◌, map}
use Rattle.run_plan.specs.declared.station.Station.{Station}
use Rattle.run_plan.proofs.machine.SerialMachine.into_events.Given as goal

abbrev pub invariant-loop-station : goal.invariant-loop-station
invariant-loop-station l = l.all.items ≡ map (λ (s : Station). s.seat.events) l.yielded
