use Rattle.port_shift.proofs.Bits.{length_bits}
use Rattle.port_shift.proofs.shift.Shift.load.Goals as goal

pub returns-clause-count : goal.returns-clause-count
returns-clause-count c = length_bits c.args.bits c.args.v
