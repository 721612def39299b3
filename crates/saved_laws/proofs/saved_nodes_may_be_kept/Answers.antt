use Rattle.saved_laws.proofs.Nodes.{nodes_may_be_kept}
use Rattle.saved_laws.proofs.saved_nodes_may_be_kept.Goals as goal

pub returns : goal.returns
returns c = record { nodes = nodes_may_be_kept c.nodes_may_be_kept.ensures.read c.nodes_of_runs_may_be_kept.ensures.run }
