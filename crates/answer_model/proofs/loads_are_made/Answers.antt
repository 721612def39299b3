use Rattle.std.proofs.Common.{ap, ◌∙◌}
use Rattle.load_model.specs.Made.{made_text}
use Rattle.answer_model.specs.OnSystem.{answer_to}
use Rattle.answer_model.proofs.Numbers.{number_is_small, answer_of_load}
use Rattle.answer_model.proofs.loads_are_made.Goals as goal

pub returns : goal.returns
returns c = λ words input n e.
    let accepted = c.loads_are_accepted.ensures n (number_is_small words n e) in
    record {
      plan = accepted.plan;
      stands = accepted.accepted;
      ring = accepted.ring;
      made = answer_of_load words input n e ∙ ap (answer_to (made_text n)) accepted.accepted;
    }
