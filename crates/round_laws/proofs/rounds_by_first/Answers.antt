use Rattle.round_laws.proofs.Counts.{test_is_of_each, all_from_then_on, not_all_before, more_where_not_all, none_if_all_at_start, count_if_first}
use Rattle.round_laws.proofs.rounds_by_first.Goals as goal

pub returns : goal.returns
returns c = record { each = test_is_of_each; from_then_on = all_from_then_on; not_before = not_all_before; more = more_where_not_all; at_start = none_if_all_at_start; first = count_if_first }
