use Rattle.snap_codec.proofs.Whole.{written_again, written_read}
use Rattle.snap_codec.proofs.snap.write_snap.Goals as goal

pub returns-clause-again : goal.returns-clause-again
returns-clause-again c = written_again c.write_parts.result c.args.snap.now c.write_parts.ensures.snap c.write_parts.ensures.text

pub returns-clause-read : goal.returns-clause-read
returns-clause-read c = written_read c.write_parts.result c.args.snap.now c.write_parts.ensures.snap c.write_parts.ensures.text
