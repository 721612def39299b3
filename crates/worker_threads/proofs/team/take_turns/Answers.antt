use Rattle.std.proofs.Common.{sym, ◌∙◌}
use Rattle.worker_threads.proofs.Teams.{none_have_turns}
use Rattle.worker_threads.proofs.team.take_turns.Goals as goal

pub returns-then-not-take_one_turn_each-clause-over : goal.returns-then-not-take_one_turn_each-clause-over
returns-then-not-take_one_turn_each-clause-over g c =
    none_have_turns c.take_one_turn_each.new.places.items (sym c.take_one_turn_each.ensures.goes_on ∙ c.if-not-take_one_turn_each.true)
