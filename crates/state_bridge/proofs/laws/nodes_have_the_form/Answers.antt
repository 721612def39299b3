use Rattle.state_bridge.proofs.Forms.{node_has}
use Rattle.state_bridge.proofs.laws.nodes_have_the_form.Goals as goal

pub returns : goal.returns
returns c = record { fits = node_has }
