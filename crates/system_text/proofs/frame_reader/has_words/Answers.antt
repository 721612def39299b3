use Rattle.std.proofs.Common.{refl, ap, ◌∙◌, not}
use Rattle.system_text.proofs.Sections.{lines_of-nothing}
use Rattle.system_text.proofs.Walk.{words_none}
use Rattle.system_text.proofs.frame_reader.has_words.Goals as goal

pub returns : goal.returns
returns c = words_none _ (lines_of-nothing _ (c.in_default.ensures.end.0 refl)) ∙ ap not c.loop-line.invariant.left
