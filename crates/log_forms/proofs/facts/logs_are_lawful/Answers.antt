use Rattle.log_forms.proofs.Laws.{link_log-lawful, wire_log-lawful}
use Rattle.log_forms.proofs.facts.logs_are_lawful.Goals as goal

pub returns : goal.returns
returns c = record { link = link_log-lawful; wire = wire_log-lawful }
