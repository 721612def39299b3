use Rattle.std.proofs.Common.{◌-◌, [], sym, subst, arith}
use Rattle.sys_plan.specs.Plan.{PlanRec}
use Rattle.serial_model.specs.Serial.{SystemRec, begun_at_start, since}
use Rattle.run_plan.specs.Run.{AreReady}
use Rattle.run_plan.proofs.Starts.{run-start}
use Rattle.run_plan.proofs.Steps.{since_none}
use Rattle.run_plan.proofs.machine.SerialMachine.new.Goals as goal

pub invariant_of-result : goal.invariant_of-result
invariant_of-result c =
    let plan = c.args.plan.now in
    let stations = c.in_ok-stations.stations.items in
    let tracks = c.in_ok-tracks.tracks.items in
    let wires = c.in_ok-wires.wires.items in
    record {
      on = omega arith;
      ready =
          subst (λ (p : PlanRec). AreReady p [] 0 (since p (begun_at_start p) (0 - 0)) stations tracks wires) (sym c.of.ensures)
          (subst (λ (whole : SystemRec). AreReady plan [] 0 whole stations tracks wires) (since_none plan (begun_at_start plan) (0 - 0) (omega arith))
          (run-start c.slot_has_few_events.ensures.first plan stations tracks wires c.tracks_of.ensures.plan c.in_ok-stations.ensures.start c.in_ok-tracks.ensures.start c.in_ok-wires.ensures.start));
    }
