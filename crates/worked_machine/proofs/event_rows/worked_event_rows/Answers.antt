use Rattle.std.proofs.Common.{refl}
use Rattle.worked_machine.proofs.Computes.{computes}
use Rattle.worked_machine.proofs.event_rows.worked_event_rows.Goals as goal

pub returns : goal.returns
unfolding computes
returns c = record {
  clearing = record {
    events = refl;
    interrupts = refl;
    event_bit = refl;
    inenb_bit = refl;
    other_bits = refl;
  };
  waiting = record {
    always = refl;
    keeps_bits = refl;
    again = refl;
    waitet = refl;
    waitet_of_0 = refl;
    waitef = refl;
    waitef_of_7 = refl;
    ready_too = refl;
  };
  status = record {
    setsr_all = refl;
    setsr_most = refl;
    setsr_waiting = refl;
    setsr_bit_5 = refl;
    setsr_upper = refl;
    setsr_one = refl;
    setsr_none = refl;
    clrsr_all = refl;
    clrsr_most = refl;
    clrsr_waiting = refl;
    clrsr_some = refl;
    clrsr_none = refl;
    clrsr_unset = refl;
  };
  freed = record {
    freet = refl;
    mjoin = refl;
  };
}
