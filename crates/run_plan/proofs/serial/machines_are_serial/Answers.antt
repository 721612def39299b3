use Rattle.std.proofs.Common.{◌≡◌, ◌-◌, ap, ◌∙◌, arith}
use Rattle.serial_model.specs.Serial.{Begun, begun_at_start, since}
use Rattle.run_plan.proofs.serial.machines_are_serial.Goals as goal

pub returns : goal.returns
returns c = record {
  serial = λ m start.
      let all : m.now - 0 ≡ m.now = omega arith in
      ap (λ (b : Begun). since m.plan b (m.now - b.slot)) start
      ∙ ap (since m.plan (begun_at_start m.plan)) all
      ∙ c.systems_go_on.ensures.start m.plan m.now;
}
