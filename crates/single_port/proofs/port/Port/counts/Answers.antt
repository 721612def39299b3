use Rattle.std.proofs.Common.{ℕ, ◌≡◌, ◌+◌, ◌%◌, ap, ◌∙◌, arith}
use Rattle.quiet_model.specs.Clocks.{counter_after_falls}
use Rattle.single_port.specs.Begins.{counted}
use Rattle.single_port.specs.Inside.{port_in}
use Rattle.single_port.specs.Keeps.{PortOf}
use Rattle.single_port.proofs.Counted.{counter_after}
use Rattle.single_port.proofs.port.Port.counts.Goals as goal

pub returns-clause-port : goal.returns-clause-port
returns-clause-port c =
    let e : (c.self.inside.counter + c.args.falls % 65536) % 65536 ≡ counter_after_falls c.args.falls c.self.inside.counter =
    omega (arith, counter_after c.args.falls c.self.inside.counter (omega (arith, c.self.ranges)))
    in
    ap (λ (n : ℕ). let that : PortOf = record { width = c.self.inside.shift.width; port = record (port_in c.self.inside) { counter = n } } in that) e
    ∙ ap (λ (that : PortOf). let after : PortOf = record { width = that.width; port = counted c.args.falls that.port } in after) c.self.view_is
