use Rattle.rest_laws.proofs.Said.{rest_of_every_run}
use Rattle.rest_laws.proofs.Saved.{said_rest_is_trace}
use Rattle.rest_laws.proofs.rest_is_the_trace_from_there.Goals as goal

pub returns-clause-said : goal.returns-clause-said
returns-clause-said c = said_rest_is_trace

pub returns-clause-every : goal.returns-clause-every
returns-clause-every c = rest_of_every_run c.nodes_of_runs_may_be_kept.ensures.run c.nodes_may_be_kept.ensures.read
