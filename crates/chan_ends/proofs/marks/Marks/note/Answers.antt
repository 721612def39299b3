use Rattle.std.proofs.Common.{arith}
use Rattle.bit_masks.proofs.OneBit.{exact-set}
use Rattle.xs_model.specs.Record.{unused_chan}
use Rattle.chan_ends.specs.Ends.{has_output}
use Rattle.xs_model.specs.Choices.{chan_is_ready}
use Rattle.chan_ends.proofs.marks.Marks.note.Goals as goal

pub returns-clause-sending : goal.returns-clause-sending
returns-clause-sending c chans long exact =
    exact-set has_output unused_chan 32 _ _ c.args.c c.args.end.now chans (omega (arith, long, c.requires)) exact (rw (← c.has_output.ensures) c.with_bit-self.ensures)

pub returns-clause-ready : goal.returns-clause-ready
returns-clause-ready c chans long exact =
    exact-set chan_is_ready unused_chan 32 _ _ c.args.c c.args.end.now chans (omega (arith, long, c.requires)) exact (rw (← c.has_input.ensures) c.with_bit-self-2.ensures)
