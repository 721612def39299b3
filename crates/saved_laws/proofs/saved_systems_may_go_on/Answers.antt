use Rattle.saved_laws.proofs.Kept.{logs_are_on_arcs}
use Rattle.saved_laws.proofs.Nodes.{systems_may_go_on}
use Rattle.saved_laws.proofs.saved_systems_may_go_on.Goals as goal

pub returns-clause-arcs : goal.returns-clause-arcs
returns-clause-arcs c = logs_are_on_arcs

pub returns-clause-system : goal.returns-clause-system
returns-clause-system c = systems_may_go_on c.saved_nodes_may_be_kept.ensures.nodes
