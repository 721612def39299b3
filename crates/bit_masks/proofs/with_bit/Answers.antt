use Rattle.std.specs.Int.{w32}
use Rattle.bit_masks.proofs.OneBit.{written-set, written-clear}
use Rattle.bit_masks.proofs.with_bit.Goals as goal

pub returns-then-holds : goal.returns-then-holds
returns-then-holds c k h = rw c.if-holds.true (written-set w32 c.args.mask c.args.n c.requires k)

pub returns-else-holds : goal.returns-else-holds
returns-else-holds c k h = rw c.if-holds.false (written-clear w32 c.args.mask c.args.n c.requires k h)
