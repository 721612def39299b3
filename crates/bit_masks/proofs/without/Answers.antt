use Rattle.std.specs.Int.{w32}
use Rattle.bit_masks.proofs.OneBit.{written-clear, clear-less}
use Rattle.bit_masks.proofs.without.Goals as goal

pub returns-clause-bits : goal.returns-clause-bits
returns-clause-bits c = written-clear w32 c.args.mask c.args.n c.requires.place

pub returns-clause-less : goal.returns-clause-less
returns-clause-less c = clear-less w32 c.args.mask c.args.n c.requires.place c.requires.is
