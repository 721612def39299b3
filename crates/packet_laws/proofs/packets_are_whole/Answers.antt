use Rattle.packet_laws.proofs.Runs.{whole_packets}
use Rattle.packet_laws.proofs.packets_are_whole.Goals as goal

pub returns : goal.returns
returns c plan slot l d is here = whole_packets plan is l d here slot
