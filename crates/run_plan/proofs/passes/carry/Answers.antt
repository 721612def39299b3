use Rattle.run_plan.proofs.Passed.{marked-wires, marked-shown}
use Rattle.run_plan.proofs.Systems.{ready-next}
use Rattle.run_plan.proofs.passes.carry.Goals as goal

pub tell_all-requires-clause-wires : goal.tell_all-requires-clause-wires
tell_all-requires-clause-wires c = marked-wires c.args.slot c.args.stations.now c.advance_all.new.stations c.advance_all.ensures.same c.args.wires.now c.requires.wires

pub tell_all-requires-clause-shown : goal.tell_all-requires-clause-shown
tell_all-requires-clause-shown c = marked-shown c.args.slot c.args.stations.now c.advance_all.new.stations c.advance_all.ensures.same c.requires.shown

pub returns-clause-next : goal.returns-clause-next
returns-clause-next c = λ plan shown whole before ready steps.
    ready-next c.slot_has_few_events.ensures.slot plan shown c.args.slot whole _ _ _ _ _ _ _ _ ready steps c.advance_all.ensures.same c.tell_all.ensures.same c.advance_all.ensures.advances c.tell_all.ensures.advances
