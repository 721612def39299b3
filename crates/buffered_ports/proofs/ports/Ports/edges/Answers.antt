use Rattle.std.proofs.Common.{ap, List, arith}
use Rattle.xs_model.specs.declared.event.Event.{Event}
use Rattle.xs_model.specs.Outside.{Emitted}
use Rattle.buffered_ports.proofs.InTurn.{none_edged}
use Rattle.buffered_ports.proofs.ports.Ports.edges.Goals as goal

pub returns-then-are_off-clause-ports : goal.returns-then-are_off-clause-ports
returns-then-are_off-clause-ports c before high =
    (none_edged c.args.slot c.args.clocks.now before c.args.pins.now.level c.args.self.now c.args.out.now.events c.are_off.ensures.count (omega arith) (λ p outside within. c.are_off.ensures.none c.if-are_off.true c.args.slot c.args.clocks.now before p outside within)).ports_stay

pub returns-then-are_off-clause-events : goal.returns-then-are_off-clause-events
returns-then-are_off-clause-events c before high =
    ap (λ (events : List Event). let out : Emitted = record c.args.out.now { events = events } in out)
    (none_edged c.args.slot c.args.clocks.now before c.args.pins.now.level c.args.self.now c.args.out.now.events c.are_off.ensures.count (omega arith) (λ p outside within. c.are_off.ensures.none c.if-are_off.true c.args.slot c.args.clocks.now before p outside within)).nothing
