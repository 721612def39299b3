use Rattle.std.proofs.Common.{refl}
use Rattle.worked_machine.proofs.Computes.{computes}
use Rattle.worked_machine.proofs.dividers.worked_dividers.Goals as goal

pub returns : goal.returns
unfolding computes
returns c = record {
  divisions = refl;
  others = refl;
  issuers = refl;
  quotient = refl;
  waits = refl;
  still = refl;
  both = refl;
  second = refl;
  rests = refl;
  in_turn = refl;
  apart = refl;
  unkept = refl;
  by_0 = refl;
  by_0_unkept = refl;
  by_0_first = refl;
  too_great = refl;
  long = refl;
  long_kept = refl;
  long_traps = refl;
  product = refl;
}
