use Rattle.std.proofs.Common.{refl, arith}
use Rattle.std.specs.Int.{w32}
use Rattle.xs_model.specs.Record.{unused_chan}
use Rattle.chan_ends.specs.Ends.{has_output}
use Rattle.chan_ends.proofs.Marked.{any_marked}
use Rattle.chan_ends.proofs.ends.ChanEnds.is_sending.Goals as goal

pub returns : goal.returns
returns c = record {
  value = rw (← c.self.view_is) (any_marked has_output unused_chan w32 c.self.inside.marks.sending c.self.inside.ends (omega (arith, c.self.invariant.0)) c.self.invariant.1 (omega arith) refl);
}
