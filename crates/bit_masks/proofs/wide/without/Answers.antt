use Rattle.std.specs.Int.{w64}
use Rattle.bit_masks.proofs.OneBit.{written-clear, clear-less}
use Rattle.bit_masks.proofs.wide.without.Goals as goal

pub returns-clause-bits : goal.returns-clause-bits
returns-clause-bits c = written-clear w64 c.args.mask c.args.n c.requires.place

pub returns-clause-less : goal.returns-clause-less
returns-clause-less c = clear-less w64 c.args.mask c.args.n c.requires.place c.requires.is
