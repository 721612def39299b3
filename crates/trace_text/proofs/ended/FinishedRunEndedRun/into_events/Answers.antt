use Rattle.std.proofs.Common.{◌≡◌}
use Rattle.std.specs.List.{AllZip}
use Rattle.std.proofs.lemmas.Result.{IfOk-weaker}
use Rattle.serial_model.specs.Serial.{serial}
use Rattle.trace_lines.specs.Kept.{Keeps}
use Rattle.trace_merge.specs.Nodes.{events_of}
use Rattle.trace_model.specs.Trace.{end_of}
use Rattle.trace_text.proofs.Kept.{kept-first}
use Rattle.trace_text.proofs.ended.FinishedRunEndedRun.into_events.Goals as goal

pub returns-clause-kept : goal.returns-clause-kept
returns-clause-kept c =
    let system = serial c.args.self.plan c.args.self.limit in
    IfOk-weaker c.into_events.result (λ v. AllZip Keeps v.items system.events) (λ v. events_of v.items ≡ (end_of system).kept)
    (λ v. kept-first v.items system.events) c.into_events.ensures.keeps
