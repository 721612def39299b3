use Rattle.buffered_ports.proofs.First.{first_row, first_ports}
use Rattle.buffered_ports.proofs.ports.Ports.new.Goals as goal

pub invariant_of-result : goal.invariant_of-result
invariant_of-result c = first_row c.default.result c.default.ensures

pub returns : goal.returns
returns c = record { off = first_ports c.default.result c.default.ensures }
