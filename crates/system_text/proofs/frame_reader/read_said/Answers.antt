use Rattle.std.proofs.Common.{refl}
use Rattle.xs_text.specs.Lines.{lines_of, bytes_left}
use Rattle.system_text.proofs.frame_reader.read_said.Goals as goal

pub returns-in_err-add-in_default-clause-memory : goal.returns-in_err-add-in_default-clause-memory
returns-in_err-add-in_default-clause-memory c = λ _. c.in_err-add-in_default.ensures.memory (lines_of (bytes_left c.args.lines.now)) refl
