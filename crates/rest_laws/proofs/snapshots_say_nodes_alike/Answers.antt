use Rattle.rest_laws.proofs.Said.{nodes_are_said}
use Rattle.rest_laws.proofs.snapshots_say_nodes_alike.Goals as goal

pub returns : goal.returns
returns c = record { said = nodes_are_said c.nodes_of_runs_may_be_kept.ensures.run c.nodes_may_be_kept.ensures.read }
