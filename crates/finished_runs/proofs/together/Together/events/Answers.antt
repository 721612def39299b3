use Rattle.std.proofs.Common.{subst}
use Rattle.serial_model.specs.Serial.{SystemRec, serial}
use Rattle.locality_laws.specs.Locality.{events_in}
use Rattle.trace_lines.specs.Kept.{Keeps}
use Rattle.finished_runs.specs.Limit.{AtLimitRec}
use Rattle.finished_runs.proofs.together.Together.events.Goals as goal

pub returns : goal.returns
returns c =
    let m = c.self.inside.machine in
    record {
      keeps =
          subst (λ (run : AtLimitRec). Keeps c.events.result.now (events_in (serial run.plan run.limit) c.args.node)) c.self.view_is
          (subst (λ (whole : SystemRec). Keeps c.events.result.now (events_in whole c.args.node)) (c.machines_are_serial.ensures.serial m c.self.invariant) c.events.ensures.keeps);
    }
