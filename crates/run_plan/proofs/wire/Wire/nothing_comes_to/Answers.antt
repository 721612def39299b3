use Rattle.std.proofs.Common.{◌+◌, sym, arith}
use Rattle.run_plan.proofs.Waiting.{next_to_come}
use Rattle.run_plan.proofs.Wires.{sending}
use Rattle.run_plan.proofs.wire.Wire.nothing_comes_to.Goals as goal

pub returns-clause-quiet : goal.returns-clause-quiet
returns-clause-quiet c = λ on.
    let wire = c.args.self.now in
    next_to_come (c.args.from + 1) c.before_next.result wire.delay wire.first wire.history.entries c.next_entry.result (omega (arith, on)) c.requires.wire.due
    (sending wire.history.entries c.requires.wire.in_order) (sym c.next_entry.ensures) c.before_next.ensures.before
