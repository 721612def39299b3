use Rattle.std.proofs.Common.{refl}
use Rattle.worked_runs.proofs.Computes.{computes}
use Rattle.worked_runs.proofs.Verdicts.{pair-ways, pair-ranks, turns, equal}
use Rattle.worked_runs.proofs.route_ranks.worked_route_ranks.Goals as goal

pub returns-clause-next : goal.returns-clause-next
unfolding computes
returns-clause-next c = record {
  count = refl;
  numbers = refl;
  ids = refl;
  networks = refl;
  first_to_1 = refl;
  first_to_2 = refl;
  first_to_3 = refl;
  first_by_net_1 = refl;
  first_to_4 = refl;
  first_to_0 = refl;
  second_to_1 = refl;
  second_to_0 = refl;
  second_to_2 = refl;
  second_to_3 = refl;
  back_by_net_0 = refl;
  back_by_net_1 = refl;
  on_by_net_0 = refl;
  on_by_net_1 = refl;
  third_to_0 = refl;
  third_to_1 = refl;
  third_to_2 = refl;
  has_1 = refl;
  has_3 = refl;
  has_none_to_2 = refl;
  has_none_to_itself = refl;
  has_in_net_1 = refl;
  has_none_in_net_0 = refl;
}

pub returns-clause-no_way : goal.returns-clause-no_way
unfolding computes
returns-clause-no_way c = record {
  networks = refl;
  network_3 = refl;
  no_link = refl;
  not_by_0 = refl;
  by_1 = refl;
  not_by_2 = refl;
  not_from_itself = refl;
  on_by_0 = refl;
  not_on_by_1 = refl;
  told = refl;
  to_second = refl;
  to_third = refl;
  to_itself = refl;
  first = refl;
  none = refl;
  in_network_3 = refl;
  of_lone = refl;
  of_unjoined = refl;
  verdict_first = refl;
  verdict_unjoined = refl;
  verdict_lone = refl;
}

pub returns-clause-goes_on : goal.returns-clause-goes_on
unfolding computes
returns-clause-goes_on c = record {
  forth = refl;
  back = refl;
  no_turn = refl;
  no_turn_back = refl;
  not_there = refl;
  not_itself = refl;
  not_forth = refl;
  not_back = refl;
  rises = refl;
  equal = refl;
  falls = refl;
}

pub returns-clause-verdicts : goal.returns-clause-verdicts
returns-clause-verdicts c = record { pair = rw (pair-ways, pair-ranks); turns = turns; equal = equal }

pub returns-clause-checks : goal.returns-clause-checks
unfolding computes
returns-clause-checks c = record {
  by_link = refl;
  complete = refl;
  judged = refl;
  no_node = refl;
  no_end = refl;
  no_other_end = refl;
  not_there_twice = refl;
  twice = refl;
  same_twice = refl;
  twice_first = refl;
  not_there_first = refl;
  one_missing = refl;
  all_missing = refl;
  missing_last = refl;
  none = refl;
  none_there = refl;
}
