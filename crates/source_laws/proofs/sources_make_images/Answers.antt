use Rattle.source_laws.proofs.IsImage.{faultless_lines, faultless_text}
use Rattle.source_laws.proofs.sources_make_images.Goals as goal

pub returns-clause-of_text : goal.returns-clause-of_text
returns-clause-of_text c = faultless_text

pub returns-clause-of_lines : goal.returns-clause-of_lines
returns-clause-of_lines c = faultless_lines
