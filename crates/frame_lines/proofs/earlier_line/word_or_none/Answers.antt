use Rattle.frame_lines.proofs.Earlier.{no_words-left}
use Rattle.frame_lines.proofs.earlier_line.word_or_none.Goals as goal

pub returns-in-None-clause-others : goal.returns-in-None-clause-others
returns-in-None-clause-others c = λ i. no_words-left c.args.line.now i c.in-None.ensures
