use Rattle.node_runners.proofs.Levels.{all-left, all-came}
use Rattle.node_runners.proofs.wire_inlets.WireInlet.come.Goals as goal

pub returns-clause-left : goal.returns-clause-left
returns-clause-left c = all-left c.args.slot c.args.self.now c.args.pins.now c.loop-e.self c.loop-e.pins c.loop-e.invariant c.next_by.new.self c.in_default.ensures

pub returns-clause-level : goal.returns-clause-level
returns-clause-level c = all-came c.args.slot c.args.self.now c.args.pins.now c.loop-e.self c.loop-e.pins c.loop-e.invariant c.next_by.new.self c.in_default.ensures
