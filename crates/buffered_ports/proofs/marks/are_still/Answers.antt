use Rattle.std.proofs.Common.{arith}
use Rattle.buffered_ports.proofs.Counts.{none_moves}
use Rattle.buffered_ports.proofs.marks.are_still.Goals as goal

pub returns : goal.returns
returns c ports count exact = none_moves c.args.moving ports (omega (arith, count)) c.ranges.moving.fits exact
