use Rattle.std.proofs.Common.{arith, map, string_bytes}
use Rattle.answer_model.specs.Forms.{form_of_words}
use Rattle.xs1_top.proofs.CountedReads.{few_reads}
use Rattle.xs1_top.proofs.counted.top_counted.Goals as goal

pub returns-clause-by_form : goal.returns-clause-by_form
returns-clause-by_form g c = c.reads_are_counted.ensures _ _ _ c.top.ensures.reads

pub returns-clause-always : goal.returns-clause-always
returns-clause-always g c =
    omega (arith, c.reads_are_counted.ensures _ _ _ c.top.ensures.reads, few_reads (form_of_words (map string_bytes c.args.words.now)))
