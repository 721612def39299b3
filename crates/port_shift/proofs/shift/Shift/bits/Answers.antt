use Rattle.std.proofs.Common.{sym}
use Rattle.port_shift.proofs.Bits.{length_bits}
use Rattle.port_shift.proofs.shift.Shift.bits.Goals as goal

pub returns-clause-value : goal.returns-clause-value
returns-clause-value c = rw (← c.self.view_is) (sym (length_bits _ _))
