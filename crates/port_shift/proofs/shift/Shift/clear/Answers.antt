use Rattle.std.proofs.Common.{refl}
use Rattle.xs_model.specs.Bits.{bits_of}
use Rattle.port_shift.proofs.shift.Shift.clear.Goals as goal

pub returns : goal.returns
unfolding bits_of
returns c = rw (← c.self.view_is) refl
