use Rattle.std.specs.Int.{w8}
use Rattle.bit_masks.proofs.OneBit.{clear-other}
use Rattle.switch_routes.proofs.links.without_mark.Goals as goal

pub returns : goal.returns
returns c = record { others = λ e h other. clear-other w8 c.args.mask c.args.end c.requires.within e h other }
