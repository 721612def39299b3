use Rattle.std.proofs.Common.{◌-◌}
use Rattle.buffered_ports.proofs.Counts.{none_passed, one_passed, all_passed, all_serve}
use Rattle.buffered_ports.proofs.ports.Ports.pass.Goals as goal

pub loop-rest-init : goal.loop-rest-init
loop-rest-init c = none_passed c.args.clocks.now c.args.from (c.args.to - c.args.from) c.args.self.now c.ports_on-rest.result c.ports_on-rest.ensures.count c.ports_on-rest.ensures.on

pub loop-rest-preserved : goal.loop-rest-preserved
loop-rest-preserved c =
    one_passed c.args.clocks.now c.args.from (c.args.to - c.args.from) c.args.self.now c.loop-rest.self _ c.loop-rest.rest _ c.lowest-p.result
    c.lowest-p.ensures.within c.lowest-p.ensures.is c.without-rest.ensures.bits c.pass_port.ensures c.loop-rest.invariant

pub returns-clause-value : goal.returns-clause-value
returns-clause-value c =
    all_passed c.args.clocks.now c.args.from (c.args.to - c.args.from) c.args.self.now c.loop-rest.self c.loop-rest.rest c.ports_on-rest.ensures.count c.loop-rest-test.false c.loop-rest.invariant

pub returns-clause-serves : goal.returns-clause-serves
returns-clause-serves c = all_serve c.args.clocks.now c.args.from (c.args.to - c.args.from) c.args.self.now c.loop-rest.self (returns-clause-value c)
