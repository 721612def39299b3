use Rattle.std.proofs.Common.{◌<◌, false, ap, sym, ◌∙◌, refl, length, arith}
use Rattle.std.proofs.lemmas.Bool.{false≢true}
use Rattle.xs_model.specs.Ports.{falls, unchanged}
use Rattle.buffered_ports.proofs.Row.{read_on, replaced, row_edged, serves_now, port_here, is_edged, moving_stays, still_moves}
use Rattle.buffered_ports.proofs.ports.Ports.plain_fall.Goals as goal

pub invariant_of-self : goal.invariant_of-self
invariant_of-self c =
    row_edged c.self.inside c.args.p c.self.inside.ready c.self.inside.moving c.index-self-p.result c.falls_plainly.new.self false _ c.self.invariant
    c.requires.port c.falls_plainly.ensures.width c.falls_plainly.ensures.role (λ same. c.falls_plainly.ensures.same) refl
    (λ differs. absurd (false≢true differs)) (λ same. refl) (λ k below other. refl) (λ plain. c.falls_plainly.ensures.plain)
    (moving_stays c.self.inside c.args.p c.index-self-p.result c.falls_plainly.new.self c.self.invariant c.requires.port (still_moves _ _ c.falls_plainly.ensures.role c.falls_plainly.ensures.same))

pub returns-clause-port : goal.returns-clause-port
returns-clause-port c =
    let inside : c.args.p < length c.self.inside.ports = omega (arith, c.requires.port, c.self.invariant.count) in
    sym (read_on falls c.self.inside.ports c.args.self.now c.args.p _ c.self.view_is inside (c.self.invariant.placed c.args.p) c.requires.plain.on)
    ∙ c.falls_plainly.ensures.edged
    ∙ ap unchanged (sym (port_here c.self.inside.ports c.args.p c.falls_plainly.new.self inside))

pub returns-clause-ports : goal.returns-clause-ports
returns-clause-ports c =
    let inside : c.args.p < length c.self.inside.ports = omega (arith, c.requires.port, c.self.invariant.count) in
    replaced c.self.inside.ports c.args.self.now c.args.p c.falls_plainly.new.self _ c.self.view_is (sym (port_here c.self.inside.ports c.args.p c.falls_plainly.new.self inside))

pub returns-clause-edged : goal.returns-clause-edged
returns-clause-edged c =
    let inside : c.args.p < length c.self.inside.ports = omega (arith, c.requires.port, c.self.invariant.count) in
    is_edged c.args.p _ _ _ _ (returns-clause-ports c) (λ same. serves_now c.self.inside.ports c.args.self.now c.args.p c.index-self-p.result c.falls_plainly.new.self c.self.view_is inside c.falls_plainly.ensures.same)
