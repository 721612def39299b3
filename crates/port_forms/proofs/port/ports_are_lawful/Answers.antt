use Rattle.port_forms.proofs.Ports.{port-lawful, ports-lawful}
use Rattle.port_forms.proofs.PortFacts.{port_is, port_has, ports_are, ports_have}
use Rattle.port_forms.proofs.port.ports_are_lawful.Goals as goal

pub returns : goal.returns
returns c = record { port = port-lawful; port_only = port_is; port_all = port_has; ports = ports-lawful; only = ports_are; all = ports_have }
