use Rattle.std.proofs.Common.{refl}
use Rattle.worked_texts.proofs.Computes.{computes}
use Rattle.worked_texts.proofs.scripts.worked_scripts.Goals as goal

pub returns-clause-refusals : goal.returns-clause-refusals
unfolding computes
returns-clause-refusals c = record { forms = refl; numbers_and_bytes = refl; kinds = refl; many_nodes = refl }

pub returns-clause-order : goal.returns-clause-order
unfolding computes
returns-clause-order c = record { order = refl }

pub returns-clause-scripts : goal.returns-clause-scripts
unfolding computes
returns-clause-scripts c = record { empty = refl; blank = refl; forms = refl; one_slot = refl; names = refl; ports = refl }

pub returns-clause-levels : goal.returns-clause-levels
returns-clause-levels c = record {
  before = refl;
  at = refl;
  after = refl;
  at_next = refl;
  for_good = refl;
  other_node = refl;
  other_pin = refl;
  node_without_lines = refl;
  high = refl;
  low_at_last = refl;
  view = refl;
  a_line_stands = refl;
  none_stands = refl;
}
