use Rattle.std.proofs.Common.{refl}
use Rattle.xs_text.specs.Lines.{bytes_left}
use Rattle.warning_text.proofs.Lines.{none_left, none_of_source, nothing_found}
use Rattle.warning_text.proofs.sources.add_source_of.Goals as goal

pub returns : goal.returns
returns c = nothing_found _ _ _ _ c.loop-line.invariant.same (none_of_source _ _ _ c.loop-line.inside _ (none_left (bytes_left c.loop-line.lines) (c.in_default.ensures.end.0 refl))) c.loop-line.invariant.warnings
