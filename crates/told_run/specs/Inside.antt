-- What a run keeps of which slots are told.
use Rattle.std.specs.Prelude.{◌≡◌, ◌≤◌, IfSome, length}
use Rattle.serial_model.specs.Serial.{begun_at_start}
use Rattle.told_run.specs.Slots.{ToldRec}
use Rattle.told_run.specs.Kept.{AreBefore, AreToldIn, AreWithin}
use Rattle.told_run.specs.declared.run.ToldRun.TheInside.{Inside}

abbrev pub seen_of : Inside → ToldRec
seen_of r = record { plan = r.machine.plan; now = r.machine.now; slot = r.slot }

pub record IsToldRun (r : Inside) : Type 0 where
  pub begun : r.machine.begun ≡ begun_at_start r.machine.plan
  pub few : length r.machine.plan.nodes ≤ 16
  pub befores : length r.befores.items ≡ length r.machine.plan.nodes
  pub told : length r.told.items ≡ length r.machine.plan.nodes
  pub before : IfSome r.slot (λ slot. AreBefore r.machine.plan slot r.befores.items)
  pub each : IfSome r.slot (λ slot. AreToldIn r.machine.plan slot r.told.items)
  pub within : AreWithin r.told.items
