use Rattle.std.proofs.Common.{refl}
use Rattle.worked_texts.proofs.Computes.{computes}
use Rattle.worked_texts.proofs.wires_read.worked_wires_read.Goals as goal

pub returns-clause-refusals : goal.returns-clause-refusals
unfolding computes
returns-clause-refusals c = record { bad = refl; wide = refl; none = refl; faulty = refl; too_many = refl; steps = refl }

pub returns-clause-systems : goal.returns-clause-systems
unfolding computes
returns-clause-systems c = record { one = refl; none = refl; behind = refl; before = refl; links_and_wires = refl; scripted = refl; driven = refl }
