use Rattle.std.proofs.Common.{◌≡◌, Some, map, string_bytes, rules}
use Rattle.answer_model.specs.declared.Form.TheVariants.{Free}
use Rattle.answer_model.specs.Forms.{form_of_words}
use Rattle.xs1_top.proofs.Asked.{coherent, answers-form}
use Rattle.xs1_top.proofs.call.top.Goals as goal

pub respond-requires-clause-coherent : goal.respond-requires-clause-coherent
respond-requires-clause-coherent g c = coherent _

pub respond-requires-clause-answers : goal.respond-requires-clause-answers
respond-requires-clause-answers g c = λ input given returned.
    let is : Some (Free c.in-Some-Free.slots) ≡ form_of_words (map string_bytes c.args.words.now) = search (rules, c.in-Some-Free.is, c.form_of_words.ensures.value) in
    answers-form given _ (Free c.in-Some-Free.slots) input is (search rules)
