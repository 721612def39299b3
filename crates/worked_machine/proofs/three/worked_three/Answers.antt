use Rattle.std.proofs.Common.{refl}
use Rattle.worked_machine.specs.Three.{line_at}
use Rattle.worked_machine.proofs.Computes.{computes}
use Rattle.worked_machine.proofs.three.worked_three.Goals as goal

pub returns : goal.returns
unfolding computes line_at
returns c = record { passed_on = refl; delivered = refl; none_on_the_way = refl; none_at_first = refl; sent = refl; credits = refl; credits_on = refl }
