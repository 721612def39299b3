use Rattle.std.proofs.Common.{arith}
use Rattle.std.specs.Int.{w64}
use Rattle.bit_masks.proofs.OneBit.{lowest-is, lowest-least}
use Rattle.bit_masks.proofs.wide.lowest.Goals as goal

pub returns-clause-is : goal.returns-clause-is
returns-clause-is c = lowest-is w64 c.args.mask c.requires (omega arith)

pub returns-clause-least : goal.returns-clause-least
returns-clause-least c = lowest-least w64 c.args.mask c.requires (omega arith)
