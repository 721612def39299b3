use Rattle.std.proofs.Common.{refl, sym, ◌∙◌}
use Rattle.system_text.proofs.Sections.{lines_of-nothing}
use Rattle.system_text.proofs.Walk.{frame_by, frame_ends}
use Rattle.system_text.proofs.frame_reader.read_lines.Goals as goal

pub returns : goal.returns
returns c = frame_by _ _ c.whole.result (sym c.loop-line.invariant.left ∙ frame_ends _ _ _ (lines_of-nothing _ (c.in_default.ensures.end.0 refl))) c.whole.ensures.read
