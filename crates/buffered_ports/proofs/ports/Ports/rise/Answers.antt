use Rattle.std.proofs.Common.{◌<◌, ap, ◌∙◌, refl, length, arith}
use Rattle.xs_model.specs.Ports.{rises, level_of}
use Rattle.xs_model.specs.Record.{PortRec}
use Rattle.single_port.specs.Keeps.{PortOf}
use Rattle.buffered_ports.proofs.Row.{read_on, replaced, row_edged, serves_now, is_edged, read, moving_stays, rise_moves}
use Rattle.buffered_ports.proofs.ports.Ports.rise.Goals as goal

pub invariant_of-self : goal.invariant_of-self
invariant_of-self c =
    row_edged c.self.inside c.args.p c.noted-self-inside.result c.self.inside.moving c.index-self-p.result c.rises-differs.new.self c.rises-differs.result
    c.is_ready.result c.self.invariant c.requires.port (ap (λ (that : PortOf). that.width) c.rises-differs.ensures.port) c.rises-differs.ensures.role
    c.rises-differs.ensures.same c.is_ready.ensures c.noted-self-inside.ensures.its c.noted-self-inside.ensures.same c.noted-self-inside.ensures.others
    c.rises-differs.ensures.plain
    (moving_stays c.self.inside c.args.p c.index-self-p.result c.rises-differs.new.self c.self.invariant c.requires.port
    (rise_moves _ _ _ _ _ _ (ap (λ (port : PortRec). port.on) (read c.self.inside.ports c.args.self.now c.args.p c.index-self-p.result c.self.view_is
    (omega (arith, c.requires.port, c.self.invariant.count))) ∙ c.requires.on) refl
    (ap (λ (that : PortOf). that.port) c.rises-differs.ensures.port) c.rises-differs.ensures.role))

pub returns-clause-ports : goal.returns-clause-ports
returns-clause-ports c =
    let inside : c.args.p < length c.self.inside.ports = omega (arith, c.requires.port, c.self.invariant.count) in
    replaced c.self.inside.ports c.args.self.now c.args.p c.rises-differs.new.self _ c.self.view_is
    (ap (λ (that : PortOf). that.port) c.rises-differs.ensures.port
    ∙ read_on (λ width port. rises width (level_of port.driven c.args.pin) c.args.strobe port) c.self.inside.ports c.args.self.now c.args.p _ c.self.view_is inside (c.self.invariant.placed c.args.p) c.requires.on)

pub returns-clause-edged : goal.returns-clause-edged
returns-clause-edged c =
    let inside : c.args.p < length c.self.inside.ports = omega (arith, c.requires.port, c.self.invariant.count) in
    is_edged c.args.p _ _ _ _ (returns-clause-ports c) (λ same. serves_now c.self.inside.ports c.args.self.now c.args.p c.index-self-p.result c.rises-differs.new.self c.self.view_is inside (c.rises-differs.ensures.same same))
