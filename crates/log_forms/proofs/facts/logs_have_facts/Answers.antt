use Rattle.log_forms.proofs.LinkFacts.{link_facts, link_from_facts}
use Rattle.log_forms.proofs.WireFacts.{wire_facts, wire_from_facts}
use Rattle.log_forms.proofs.facts.logs_have_facts.Goals as goal

pub returns : goal.returns
returns c = record { link = link_facts; wire = wire_facts; link_again = link_from_facts; wire_again = wire_from_facts }
