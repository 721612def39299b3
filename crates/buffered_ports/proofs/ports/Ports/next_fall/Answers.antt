use Rattle.buffered_ports.proofs.Counts.{none_asked, one_asked, all_asked}
use Rattle.buffered_ports.proofs.ports.Ports.next_fall.Goals as goal

pub loop-rest-init : goal.loop-rest-init
loop-rest-init c = none_asked c.args.clocks.now c.args.from c.args.bound c.args.self.now c.ports_on-rest.result c.ports_on-rest.ensures.on

pub loop-rest-preserved : goal.loop-rest-preserved
loop-rest-preserved c =
    one_asked c.args.clocks.now c.args.from c.args.bound c.args.self.now c.loop-rest.first _ c.loop-rest.rest _ c.lowest-p.result
    c.lowest-p.ensures.within c.lowest-p.ensures.is c.without-rest.ensures.bits c.next_fall_of-first.ensures c.loop-rest.invariant

pub returns : goal.returns
returns c = record {
  first = all_asked c.args.clocks.now c.args.from c.args.bound c.args.self.now c.loop-rest.first c.loop-rest.rest c.ports_on-rest.ensures.count c.loop-rest-test.false c.loop-rest.invariant;
}
