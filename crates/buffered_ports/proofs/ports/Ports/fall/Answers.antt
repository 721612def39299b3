use Rattle.std.proofs.Common.{◌<◌, ap, ◌∙◌, length, arith}
use Rattle.xs_model.specs.Ports.{falls}
use Rattle.single_port.specs.Keeps.{PortOf}
use Rattle.buffered_ports.proofs.Row.{read_on, replaced, row_edged, serves_now, is_edged, moving_differs, still_moves}
use Rattle.buffered_ports.proofs.ports.Ports.fall.Goals as goal

pub invariant_of-self : goal.invariant_of-self
invariant_of-self c =
    row_edged c.self.inside c.args.p c.noted-self-inside.result c.noted-self-inside-2.result c.index-self-p.result c.falls-fallen.new.self
    c.falls-fallen.result.differs c.is_ready.result c.self.invariant c.requires.port (ap (λ (that : PortOf). that.width) c.falls-fallen.ensures.port)
    c.falls-fallen.ensures.role c.falls-fallen.ensures.same c.is_ready.ensures c.noted-self-inside.ensures.its c.noted-self-inside.ensures.same
    c.noted-self-inside.ensures.others
    c.falls-fallen.ensures.plain
    (moving_differs c.self.inside c.args.p c.noted-self-inside-2.result c.index-self-p.result c.falls-fallen.new.self c.falls-fallen.result.differs c.is_still.result c.self.invariant c.requires.port c.is_still.ensures
    (λ same. still_moves _ _ c.falls-fallen.ensures.role (c.falls-fallen.ensures.same same)) c.noted-self-inside-2.ensures.its c.noted-self-inside-2.ensures.same c.noted-self-inside-2.ensures.others)

pub returns-clause-ports : goal.returns-clause-ports
returns-clause-ports c =
    let inside : c.args.p < length c.self.inside.ports = omega (arith, c.requires.port, c.self.invariant.count) in
    replaced c.self.inside.ports c.args.self.now c.args.p c.falls-fallen.new.self _ c.self.view_is
    (ap (λ (that : PortOf). that.port) c.falls-fallen.ensures.port
    ∙ read_on (λ width port. (falls width port).port) c.self.inside.ports c.args.self.now c.args.p _ c.self.view_is inside (c.self.invariant.placed c.args.p) c.requires.on)

pub returns-clause-change : goal.returns-clause-change
returns-clause-change c =
    let inside : c.args.p < length c.self.inside.ports = omega (arith, c.requires.port, c.self.invariant.count) in
    c.falls-fallen.ensures.change ∙ read_on (λ width port. (falls width port).change) c.self.inside.ports c.args.self.now c.args.p _ c.self.view_is inside (c.self.invariant.placed c.args.p) c.requires.on

pub returns-clause-edged : goal.returns-clause-edged
returns-clause-edged c =
    let inside : c.args.p < length c.self.inside.ports = omega (arith, c.requires.port, c.self.invariant.count) in
    is_edged c.args.p _ _ _ _ (returns-clause-ports c) (λ same. serves_now c.self.inside.ports c.args.self.now c.args.p c.index-self-p.result c.falls-fallen.new.self c.self.view_is inside (c.falls-fallen.ensures.same same))
