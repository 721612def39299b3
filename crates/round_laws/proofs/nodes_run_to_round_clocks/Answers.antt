use Rattle.round_laws.proofs.Bridge.{round_runs_below, round_may_run, round_runs_to, horizon_sees_round}
use Rattle.round_laws.proofs.nodes_run_to_round_clocks.Goals as goal

pub returns : goal.returns
returns c = record { bound = round_runs_below; may_run = round_may_run; runs_to = round_runs_to; horizon = horizon_sees_round }
