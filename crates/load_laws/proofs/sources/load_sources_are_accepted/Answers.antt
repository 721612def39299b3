use Rattle.load_laws.proofs.SourceRead.{source_read}
use Rattle.load_laws.proofs.sources.load_sources_are_accepted.Goals as goal

pub returns : goal.returns
returns c = source_read
