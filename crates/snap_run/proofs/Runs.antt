-- What a machine has become that has run a plan from slot 0 on.
use Rattle.std.proofs.Common.{◌≡◌, sym, ap, ◌∙◌}
use Rattle.sys_plan.specs.Plan.{PlanRec}
use Rattle.serial_model.specs.Serial.{begun_at_start, serial}
use Rattle.run_plan.specs.Machine.{MachineRec, WholeRunIsSerial, system_of}

pub is_serial : WholeRunIsSerial → (plan : PlanRec) (m : MachineRec) → m.plan ≡ plan → m.begun ≡ begun_at_start plan → system_of m ≡ serial plan m.now
is_serial whole plan m is begun = whole m (begun ∙ ap begun_at_start (sym is)) ∙ ap (λ (p : PlanRec). serial p m.now) is
