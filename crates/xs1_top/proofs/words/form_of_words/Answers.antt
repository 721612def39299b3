use Rattle.std.proofs.Common.{arith}
use Rattle.xs1_top.proofs.FormOfWords.{form_of_words-none, form_of_words-many}
use Rattle.xs1_top.proofs.words.form_of_words.Goals as goal

pub returns-in_default-clause-value : goal.returns-in_default-clause-value
returns-in_default-clause-value c = form_of_words-none _ c.in_default.len_below

pub returns-in_default-3-clause-value : goal.returns-in_default-3-clause-value
returns-in_default-3-clause-value c = form_of_words-many _ (omega (arith, c.in_default.len_at_least))
