use Rattle.std.proofs.Common.{◌<◌, length, arith}
use Rattle.buffered_ports.proofs.Row.{drives_here}
use Rattle.buffered_ports.proofs.ports.Ports.driven.Goals as goal

pub returns-clause-fits : goal.returns-clause-fits
returns-clause-fits c =
    let inside : c.args.port < length c.self.inside.ports = omega (arith, c.requires.port, c.self.invariant.count) in
    drives_here c.driven.result c.self.inside.ports c.args.self.now c.args.port c.index-self-port.result inside (c.self.invariant.placed c.args.port) c.driven.ensures.fits c.driven.ensures.off
