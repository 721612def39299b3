use Rattle.range_laws.proofs.Saved.{saved_may_go_on, saved_go_on}
use Rattle.range_laws.proofs.saved_runs_are_whole.Goals as goal

pub returns : goal.returns
returns c = record {
  system = saved_may_go_on c.numbers_of_runs_fit.ensures.tokens c.saved_systems_may_go_on.ensures.system;
  rest = saved_go_on c.numbers_of_runs_fit.ensures.dests c.rest_is_the_trace_from_there.ensures.every;
}
