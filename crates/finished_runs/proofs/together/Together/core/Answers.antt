use Rattle.std.proofs.Common.{subst}
use Rattle.serial_model.specs.Serial.{SystemRec, serial}
use Rattle.locality_laws.specs.Locality.{node_in}
use Rattle.core_step.specs.Core.{StandsAt}
use Rattle.finished_runs.specs.Limit.{AtLimitRec}
use Rattle.finished_runs.proofs.together.Together.core.Goals as goal

pub returns : goal.returns
returns c =
    let m = c.self.inside.machine in
    record {
      stands =
          subst (λ (run : AtLimitRec). StandsAt c.core.result.now (node_in (serial run.plan run.limit) c.args.node) run.limit) c.self.view_is
          (subst (λ (whole : SystemRec). StandsAt c.core.result.now (node_in whole c.args.node) m.now) (c.machines_are_serial.ensures.serial m c.self.invariant) c.core.ensures.stands);
    }
