use Rattle.round_laws.proofs.Clocks.{start_at_zero, go_by_rounds, no_round_falls, clocks_stay_within, round_goes_on, rounds_go_on}
use Rattle.round_laws.proofs.round_clocks_rise.Goals as goal

pub returns : goal.returns
returns c = record { start = start_at_zero; round = go_by_rounds; none_falls = no_round_falls; within = clocks_stay_within; goes_on = round_goes_on; go_on = rounds_go_on }
