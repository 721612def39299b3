use Rattle.std.proofs.Common.{refl}
use Rattle.worked_runs.proofs.Computes.{computes}
use Rattle.worked_runs.proofs.receiver.worked_receiver.Goals as goal

pub returns : goal.returns
unfolding computes
returns c = record {
  alone = record {
    delivered = refl;
    credits = refl;
    other_ends = refl;
    not_yet_missed = refl;
    missed = refl;
    deaf_backward = refl;
  };
}
