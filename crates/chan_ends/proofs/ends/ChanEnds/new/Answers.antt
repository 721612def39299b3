use Rattle.chan_ends.proofs.Unused.{all_unused}
use Rattle.chan_ends.proofs.ends.ChanEnds.new.Goals as goal

pub returns : goal.returns
returns c = record { unused = all_unused _ 32 c.default.ensures }
