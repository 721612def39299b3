use Rattle.program_calls.proofs.CountedReads.{counted_reads}
use Rattle.program_calls.proofs.reads_are_counted.Goals as goal

pub returns : goal.returns
returns c = counted_reads
