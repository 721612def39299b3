use Rattle.wave_laws.proofs.FirstBad.{refused_first}
use Rattle.wave_laws.proofs.refused_lines_are_first.Goals as goal

pub returns : goal.returns
returns c = record { refused = refused_first }
