use Rattle.std.proofs.Common.{ap, ◌∙◌}
use Rattle.system_model.specs.FrameLines.{play_line}
use Rattle.system_text.specs.LineWords.{bytes_of}
use Rattle.system_text.specs.Steps.{stepped}
use Rattle.system_text.proofs.Steps.{too_many}
use Rattle.system_text.proofs.step_lines.step_line.Goals as goal

pub returns-in-Ok : goal.returns-in-Ok
returns-in-Ok c = c.step_of.ensures ∙ ap (λ ws. stepped (play_line ws)) (ap bytes_of c.deref.ensures.0 ∙ c.in-Ok.ensures.words)

pub returns-in-Err : goal.returns-in-Err
returns-in-Err c = too_many _ _ c.in-Err.ensures.kind c.in-Err.ensures.many
