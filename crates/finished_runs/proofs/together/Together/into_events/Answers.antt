use Rattle.std.proofs.Common.{subst}
use Rattle.std.specs.Prelude.{IfOk}
use Rattle.std.specs.List.{AllZip}
use Rattle.serial_model.specs.Serial.{SystemRec, serial}
use Rattle.trace_lines.specs.Kept.{Keeps}
use Rattle.finished_runs.specs.Limit.{AtLimitRec}
use Rattle.finished_runs.proofs.together.Together.into_events.Goals as goal

pub returns-clause-keeps : goal.returns-clause-keeps
returns-clause-keeps c =
    let m = c.self.inside.machine in
    subst (λ (run : AtLimitRec). IfOk c.into_events.result (λ v. AllZip Keeps v.items (serial run.plan run.limit).events)) c.self.view_is
    (subst (λ (whole : SystemRec). IfOk c.into_events.result (λ v. AllZip Keeps v.items whole.events)) (c.machines_are_serial.ensures.serial m c.self.invariant) c.into_events.ensures.keeps)
