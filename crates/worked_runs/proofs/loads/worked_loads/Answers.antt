use Rattle.std.proofs.Common.{refl}
use Rattle.worked_runs.proofs.Computes.{computes}
use Rattle.worked_runs.proofs.loads.worked_loads.Goals as goal

pub returns-clause-texts : goal.returns-clause-texts
unfolding computes
returns-clause-texts c = record {
  fewest = refl;
  most = refl;
  fewest_again = refl;
  greatest = refl;
  first_delay = refl;
  last_delay = refl;
  back = refl;
  far_on = refl;
  delay_of_the_greatest = refl;
  delay_again = refl;
  lowest_bit = refl;
  over_four = refl;
  over_eight = refl;
  round_of_sixteen = refl;
  round_of_three = refl;
  first_words = refl;
  last_words = refl;
  past_the_end = refl;
  frame = refl;
  lines = refl;
  ends = refl;
  most_lines = refl;
}

pub returns-clause-lines : goal.returns-clause-lines
unfolding computes
returns-clause-lines c = record { told = refl; cut = refl }
