use Rattle.std.proofs.Common.{ap, ◌∙◌, arith}
use Rattle.node_runners.specs.Runner.{RunnerRec}
use Rattle.node_rounds.proofs.Running.{stopped}
use Rattle.node_rounds.proofs.seat.Seat.take_and_run.Goals as goal

pub returns : goal.returns
returns c =
    let taken = c.in_ok-take_all.ensures.all in
    let clock = c.clock-clock.ensures in
    let onto : RunnerRec → RunnerRec = λ r. record r { clock = c.run_on.new.self.clock; stepped = c.run_on.new.self.stepped } in
    record {
      worked = record {
        ran = c.run_on.ensures.rest ∙ ap onto taken.runner;
        none_left = taken.none_left;
        run_out = record { stops = stopped c.run_on.new.self.horizon c.run_on.new.self.clock c.in_ok-run_on.field-0 c.in_ok-run_on.ensures.stops; within = omega (arith, clock.within, clock.value); ahead = λ end s there. omega (arith, clock.ahead end s there, clock.value) };
        busy = c.run_on.ensures.busy;
      };
    }
