use Rattle.std.proofs.Common.{◌%◌, ap, subst, arith}
use Rattle.std.proofs.lemmas.List.{length-map}
use Rattle.xs_model.specs.Record.{SlotsRec}
use Rattle.thread_slots.specs.Turns.{last_in}
use Rattle.thread_slots.proofs.Picked.{best_of_least, none_of_least, IsPicked, picked, none_picked}
use Rattle.thread_slots.proofs.Slots.pick.Goals as goal
use Rattle.thread_slots.proofs.Slots.pick.Goals.{Then-turn-from}

its : (c : Then-turn-from) → IsPicked c.args.able c.args.slot c.args.self.now.last (c.least_turn-turn.result % 8)
its c =
    subst (λ lasts. IsPicked c.args.able c.args.slot lasts (c.least_turn-turn.result % 8)) (ap (λ (slots : SlotsRec). slots.last) c.self.view_is) (picked _ _ _ _ (omega (arith, c.self.invariant.threads, length-map c.self.inside.turns last_in)) (best_of_least c.args.able c.args.slot c.least_turn-turn.result c.self.inside.turns c.self.invariant c.least_turn-turn.ensures (omega arith) (omega arith)))

pub returns-then-turn-from-clause-value : goal.returns-then-turn-from-clause-value
returns-then-turn-from-clause-value c = (its c).value

pub returns-then-turn-from-clause-rested : goal.returns-then-turn-from-clause-rested
returns-then-turn-from-clause-rested c = (its c).rested

pub returns-then-turn-from-clause-least : goal.returns-then-turn-from-clause-least
returns-then-turn-from-clause-least c = (its c).least

pub returns-then-turn-from-clause-lowest : goal.returns-then-turn-from-clause-lowest
returns-then-turn-from-clause-lowest c = (its c).lowest

pub returns-else-turn-from-clause-value : goal.returns-else-turn-from-clause-value
returns-else-turn-from-clause-value c =
    rw (← c.self.view_is) (none_picked c.args.able c.args.slot _ (omega (arith, c.self.invariant.threads, length-map c.self.inside.turns last_in)) (none_of_least c.args.able c.args.slot c.least_turn-turn.result c.self.inside.turns c.self.invariant c.least_turn-turn.ensures (omega arith)))
