use Rattle.source_laws.proofs.Law.{assembled_canonical}
use Rattle.source_laws.proofs.canonical_is_read_back.Goals as goal

pub returns : goal.returns
returns c image h bytes = assembled_canonical image h bytes c.written_is_read.ensures.found c.written_is_read.ensures.built_again
