use Rattle.std.proofs.Common.{ap, ◌∙◌}
use Rattle.system_model.specs.FrameLines.{frame_line}
use Rattle.system_text.specs.Forms.{formed}
use Rattle.system_text.specs.LineWords.{bytes_of}
use Rattle.system_text.proofs.FormNames.{too_many}
use Rattle.system_text.proofs.frame_lines.frame_line.Goals as goal

pub returns-in-Ok : goal.returns-in-Ok
returns-in-Ok c = c.form_of.ensures ∙ ap (λ ws. formed (frame_line c.args.edition ws)) (ap bytes_of c.deref.ensures.0 ∙ c.in-Ok.ensures.words)

pub returns-in-Err : goal.returns-in-Err
returns-in-Err c = too_many c.args.edition _ _ c.in-Err.ensures.kind c.in-Err.ensures.many
