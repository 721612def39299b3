use Rattle.std.proofs.Common.{ap, eqb}
use Rattle.std.specs.Int.{w8}
use Rattle.std.proofs.lemmas.Nat.Bits.{bit_at_set_same, bit_at_set_other}
use Rattle.thread_slots.proofs.with_able.Goals as goal

pub returns-clause-added : goal.returns-clause-added
returns-clause-added c = ap (λ b. eqb b 1) (bit_at_set_same w8 c.args.able c.args.th c.requires)

pub returns-clause-others : goal.returns-clause-others
returns-clause-others c = λ k ne. ap (λ b. eqb b 1) (bit_at_set_other w8 c.args.able c.args.th c.requires k ne)
