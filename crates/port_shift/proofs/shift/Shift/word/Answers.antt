use Rattle.std.proofs.Common.{sym, ap}
use Rattle.xs_model.specs.Bits.{bits_of}
use Rattle.port_shift.proofs.Bits.{length_bits, value_bits}
use Rattle.port_shift.proofs.shift.Shift.word.Goals as goal

pub returns-clause-value : goal.returns-clause-value
returns-clause-value c = rw (← c.self.view_is) (sym (value_bits _ _ c.self.invariant.word))

pub returns-clause-fits : goal.returns-clause-fits
returns-clause-fits c = rw (← c.self.view_is, length_bits c.self.inside.count c.self.inside.word) c.self.invariant.word

pub returns-clause-again : goal.returns-clause-again
returns-clause-again c = rw (← c.self.view_is) (ap (λ count. bits_of count c.self.inside.word) (length_bits c.self.inside.count c.self.inside.word))
