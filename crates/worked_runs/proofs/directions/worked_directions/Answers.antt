use Rattle.std.proofs.Common.{refl}
use Rattle.worked_runs.proofs.directions.worked_directions.Goals as goal

pub returns : goal.returns
returns c = record {
  forth_leaves = refl;
  forth_comes = refl;
  back_leaves = refl;
  back_comes = refl;
  none_leaves = refl;
  none_comes = refl;
  none_leaves_by_2 = refl;
  gaps_of_second = refl;
  gaps_of_first = refl;
  gaps_of_third = refl;
  all = refl;
  second_forth_leaves = refl;
  second_forth_comes = refl;
  second_back_leaves = refl;
  second_back_comes = refl;
  first_stays = refl;
  delay = refl;
  second_delay = refl;
  second_gap = refl;
  both_gaps = refl;
}
