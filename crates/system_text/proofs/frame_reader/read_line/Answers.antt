use Rattle.system_text.proofs.Walk.{line_refused, line_read, may_want, read_by}
use Rattle.system_text.proofs.frame_reader.read_line.Goals as goal

pub returns-in-Err-clause-read : goal.returns-in-Err-clause-read
returns-in-Err-clause-read c = rw c.refusal.ensures (line_refused _ _ _ _ _ c.in-Err.ensures)

pub returns-in-Ok-clause-read : goal.returns-in-Ok-clause-read
returns-in-Ok-clause-read c =
    read_by _ _ _ c.read_said.result
    (line_read c.args.line.number c.args.lines.now.number c.args.frame.now _ _ c.in-Ok.said c.in-Ok.ensures.0 c.in-Ok.ensures.1 c.requires.numbered)
    c.read_said.ensures.read

pub returns-in-Ok-clause-memory : goal.returns-in-Ok-clause-memory
returns-in-Ok-clause-memory c = λ wanting. may_want _ _ _ c.in-Ok.said c.in-Ok.ensures.0 c.in-Ok.ensures.1 (c.read_said.ensures.memory wanting)
