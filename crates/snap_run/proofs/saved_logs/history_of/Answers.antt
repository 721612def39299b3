use Rattle.std.proofs.Common.{◌≡◌, ◌<◌, sym, ap, ◌∙◌, subst}
use Rattle.std.specs.List.{AllByRecursion}
use Rattle.xs_base.specs.declared.entry.Entry.{Entry}
use Rattle.sys_plan.specs.Plan.{PlanRec}
use Rattle.serial_model.specs.Serial.{SystemRec, begun_at_start, serial}
use Rattle.locality_laws.specs.Locality.{history_in}
use Rattle.locality_laws.proofs.Serial.{sent_before}
use Rattle.snap_run.proofs.Runs.{is_serial}
use Rattle.snap_run.proofs.saved_logs.history_of.Goals as goal

pub returns : goal.returns
returns c =
    let plan = c.args.plan.now in
    let m = c.args.machine.now in
    let value = c.history.ensures.value ∙ ap (λ (s : SystemRec). history_in s.histories c.args.link) (is_serial c.machines_are_serial.ensures.serial plan m c.requires.plan c.requires.start) in
    record {
      value = value;
      before = subst (AllByRecursion (λ (e : Entry). e.slot < m.now)) (sym value) (sent_before plan c.args.link m.now);
    }
