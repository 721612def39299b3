use Rattle.std.proofs.Common.{refl}
use Rattle.worked_machine.proofs.time.worked_time.Goals as goal

pub returns : goal.returns
returns c = record {
  times = record {
    first_slots = refl;
    late_slots = refl;
    wraps = refl;
  };
  after = record {
    value_0 = refl;
    value_1 = refl;
    before_half = refl;
    half = refl;
    after_half = refl;
    before_greatest = refl;
    greatest = refl;
  };
  edges = record {
    reference = refl;
    divider_0 = refl;
    divider_1 = refl;
    divider_2 = refl;
    divider_255 = refl;
    third_period = refl;
    does_not_run = refl;
    is_off = refl;
    late_reference = refl;
    late_divider_2 = refl;
  };
}
