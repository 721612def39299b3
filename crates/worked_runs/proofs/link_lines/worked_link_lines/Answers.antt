use Rattle.std.proofs.Common.{refl}
use Rattle.worked_runs.proofs.Computes.{computes}
use Rattle.worked_runs.proofs.link_lines.worked_link_lines.Goals as goal

pub returns : goal.returns
unfolding computes
returns c = record { link = refl; two_nodes = refl; no_slots = refl; three_nodes = refl; flooded = refl }
