use Rattle.std.proofs.Common.{refl}
use Rattle.xs_text.specs.Lines.{bytes_left}
use Rattle.warning_text.proofs.Lines.{none_left, none_of_frame, all_found}
use Rattle.warning_text.proofs.frame.add_frame.Goals as goal

pub returns : goal.returns
returns c = all_found _ _ _ (none_of_frame _ _ c.loop-line.inside _ (none_left (bytes_left c.loop-line.lines) (c.in_default.ensures.end.0 refl))) c.loop-line.invariant.warnings
