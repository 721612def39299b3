use Rattle.core_step.proofs.network.nothing_arrives.Goals as goal

pub returns-then-are_none : goal.returns-then-are_none
returns-then-are_none c = λ none. record { tokens = c.are_none.ensures c.if-are_none.true; credits = c.are_false.ensures none }
