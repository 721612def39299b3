use Rattle.node_forms.proofs.Facts.{node_facts}
use Rattle.node_forms.proofs.laws.nodes_have_facts.Goals as goal

pub returns : goal.returns
returns c = record { facts = node_facts }
