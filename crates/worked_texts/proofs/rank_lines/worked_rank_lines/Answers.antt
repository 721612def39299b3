use Rattle.std.proofs.Common.{refl}
use Rattle.worked_texts.proofs.Computes.{computes}
use Rattle.worked_texts.proofs.rank_lines.worked_rank_lines.Goals as goal

pub returns-clause-lines : goal.returns-clause-lines
unfolding computes
returns-clause-lines c = record { good = refl; others = refl; bad = refl }

pub returns-clause-texts : goal.returns-clause-texts
unfolding computes
returns-clause-texts c = record {
  two = refl;
  two_system = refl;
  spaced = refl;
  spaced_system = refl;
  returned = refl;
  returned_system = refl;
  none = refl;
  empty_system = refl;
  not_ended = refl;
  nothing_after = refl;
  twice = refl;
  empty = refl;
  no_system = refl;
  no_system_not_ended = refl;
  system_text_alone = refl;
  past_the_rank = refl;
  past_the_end = refl;
  past_the_nodes = refl;
  bad_byte = refl;
  lone_return = refl;
  two_returns = refl;
}
