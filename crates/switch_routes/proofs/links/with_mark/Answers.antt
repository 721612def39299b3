use Rattle.std.specs.Int.{w8}
use Rattle.bit_masks.proofs.OneBit.{set-same, set-other}
use Rattle.switch_routes.proofs.links.with_mark.Goals as goal

pub returns-clause-added : goal.returns-clause-added
returns-clause-added c = set-same w8 c.args.mask c.args.end c.requires.within

pub returns-clause-others : goal.returns-clause-others
returns-clause-others c = λ e other. set-other w8 c.args.mask c.args.end c.requires.within e other
