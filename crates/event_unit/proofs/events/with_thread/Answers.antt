use Rattle.std.proofs.Common.{ap, eqb}
use Rattle.std.specs.Int.{w8}
use Rattle.std.proofs.lemmas.Nat.Bits.{bit_at_set_same, bit_at_set_other}
use Rattle.event_unit.proofs.events.with_thread.Goals as goal

pub returns-clause-added : goal.returns-clause-added
returns-clause-added c = ap (λ b. eqb b 1) (bit_at_set_same w8 c.args.mask c.args.k c.requires)

pub returns-clause-others : goal.returns-clause-others
returns-clause-others c = λ j ne. ap (λ b. eqb b 1) (bit_at_set_other w8 c.args.mask c.args.k c.requires j ne)
