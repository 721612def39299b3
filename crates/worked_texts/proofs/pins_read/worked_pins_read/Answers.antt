use Rattle.std.proofs.Common.{refl}
use Rattle.worked_texts.proofs.Computes.{computes}
use Rattle.worked_texts.proofs.pins_read.worked_pins_read.Goals as goal

pub returns-clause-systems : goal.returns-clause-systems
unfolding computes
returns-clause-systems c = record { behind = refl; before = refl; round = refl; empty = refl; without = refl; no_node = refl }

pub returns-clause-refusals : goal.returns-clause-refusals
unfolding computes
returns-clause-refusals c = record {
  behind = refl;
  before = refl;
  round = refl;
  no_node = refl;
  source_behind = refl;
  source_before = refl;
  pins_in_source = refl;
  no_source = refl;
  later_line = refl;
}
