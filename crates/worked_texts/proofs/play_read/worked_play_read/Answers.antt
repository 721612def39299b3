use Rattle.std.proofs.Common.{refl}
use Rattle.worked_texts.proofs.Computes.{computes}
use Rattle.worked_texts.proofs.play_read.worked_play_read.Goals as goal

pub returns-clause-systems : goal.returns-clause-systems
unfolding computes
returns-clause-systems c = record {
  before = refl;
  behind = refl;
  before_pins = refl;
  behind_pins = refl;
  early_node = refl;
  empty = refl;
  without = refl;
  no_node = refl;
}

pub returns-clause-refusals : goal.returns-clause-refusals
unfolding computes
returns-clause-refusals c = record { bad = refl; bytes = refl; wide = refl; none = refl; whole = refl; in_source = refl; in_pins = refl }
