use Rattle.std.proofs.Common.{refl}
use Rattle.worked_runs.proofs.Computes.{computes}
use Rattle.worked_runs.proofs.event_lines.worked_event_lines.Goals as goal

pub returns : goal.returns
unfolding computes
returns c = record { trap = refl; halt = refl; drive = refl; float = refl; control = refl; byte = refl; lost = refl }
