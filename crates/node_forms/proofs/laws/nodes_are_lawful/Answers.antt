use Rattle.node_forms.proofs.Lawfulness.{snap_node-lawful}
use Rattle.node_forms.proofs.laws.nodes_are_lawful.Goals as goal

pub returns : goal.returns
returns c = record { node = snap_node-lawful }
