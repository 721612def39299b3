use Rattle.system_text.proofs.Walk.{framed_wordless, framed_worded, frame_by, not_true, not_false}
use Rattle.system_text.proofs.frame_reader.read_frame.Goals as goal

pub returns-then-has_words-clause-read : goal.returns-then-has_words-clause-read
returns-then-has_words-clause-read c = frame_by _ _ c.read_lines.result (framed_worded _ (not_true _ _ c.has_words.ensures c.if-has_words.true)) c.read_lines.ensures

pub returns-else-has_words-clause-read : goal.returns-else-has_words-clause-read
returns-else-has_words-clause-read c = rw c.refusal.ensures (framed_wordless _ (not_false _ _ c.has_words.ensures c.if-has_words.false))

pub returns-then-has_words-clause-memory : goal.returns-then-has_words-clause-memory
returns-then-has_words-clause-memory c = λ _. not_true _ _ c.has_words.ensures c.if-has_words.true
