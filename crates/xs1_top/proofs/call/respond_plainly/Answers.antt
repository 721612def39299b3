use Rattle.std.proofs.Common.{rules, sym, ◌∙◌}
use Rattle.xs1_top.proofs.Asked.{coherent, answers-form}
use Rattle.xs1_top.proofs.call.respond_plainly.Goals as goal

pub refuse-requires-clause-coherent : goal.refuse-requires-clause-coherent
refuse-requires-clause-coherent g c = coherent _

pub respond-requires-clause-coherent : goal.respond-requires-clause-coherent
respond-requires-clause-coherent g c = coherent _

pub respond-requires-clause-answers : goal.respond-requires-clause-answers
respond-requires-clause-answers g c = λ input given returned.
    answers-form given _ c.in-Some.form input (sym c.in-Some.is ∙ c.requires.of_words) (search rules)
