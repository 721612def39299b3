use Rattle.std.proofs.Common.{◌<◌, length, subst, arith}
use Rattle.xs_model.specs.Record.{PortRec}
use Rattle.quiet_model.specs.Slots.{IsFirst}
use Rattle.quiet_model.specs.Clocks.{has_fallen}
use Rattle.single_port.specs.Begins.{BeginsAt}
use Rattle.buffered_ports.specs.Asks.{port_at}
use Rattle.buffered_ports.proofs.Row.{read}
use Rattle.buffered_ports.proofs.Counts.{begins_first}
use Rattle.buffered_ports.proofs.ports.Ports.next_fall_of.Goals as goal

pub returns-in-Some : goal.returns-in-Some
returns-in-Some c =
    let inside : c.args.p < length c.self.inside.ports = omega (arith, c.requires.port, c.self.invariant.count) in
    let port : PortRec = port_at c.args.self.now c.args.p in
    let begins : BeginsAt port c.in-Some.k =
    subst (λ port. BeginsAt port c.in-Some.k) (read c.self.inside.ports c.args.self.now c.args.p c.index-self-p.result c.self.view_is inside) c.in-Some.ensures.first
    in
    let first : IsFirst (has_fallen c.args.clocks.now port.clock c.args.from c.in-Some.k) c.args.from c.args.bound c.fall_at.result =
    subst (λ clock. IsFirst (has_fallen c.args.clocks.now clock c.args.from c.in-Some.k) c.args.from c.args.bound c.fall_at.result) c.clock.ensures.value c.fall_at.ensures.first
    in
    begins_first c.args.clocks.now c.args.from c.args.bound c.in-Some.k c.fall_at.result port c.requires.on begins first
