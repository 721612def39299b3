use Rattle.locality_laws.proofs.Nodes.{step_needs_coming, locality, outgoing_leaves}
use Rattle.locality_laws.proofs.nodes_are_local.Goals as goal

pub returns-clause-step : goal.returns-clause-step
returns-clause-step c = step_needs_coming

pub returns-clause-local : goal.returns-clause-local
returns-clause-local c = locality

pub returns-clause-leaves : goal.returns-clause-leaves
returns-clause-leaves c = outgoing_leaves
