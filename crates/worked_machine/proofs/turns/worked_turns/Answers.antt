use Rattle.std.proofs.Common.{refl}
use Rattle.worked_machine.proofs.Computes.{computes}
use Rattle.worked_machine.proofs.turns.worked_turns.Goals as goal

pub returns : goal.returns
unfolding computes
returns c = record {
  always_able = record {
    one = refl;
    four = refl;
    five = refl;
    eight = refl;
  };
  one = refl;
  two = refl;
  eight_set_up = refl;
  eight = refl;
  lock_set_up = refl;
  lock = refl;
  slaves_set_up = refl;
  slaves = refl;
}
