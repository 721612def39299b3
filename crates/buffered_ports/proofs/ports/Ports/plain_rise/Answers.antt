use Rattle.std.proofs.Common.{◌<◌, true, not, ap, sym, ◌∙◌, length, arith}
use Rattle.xs_model.specs.Ports.{rises, level_of}
use Rattle.single_port.specs.Keeps.{PortOf}
use Rattle.buffered_ports.specs.Asks.{port_at}
use Rattle.buffered_ports.proofs.Plain.{ready_where_full, was_full}
use Rattle.buffered_ports.proofs.Row.{read_on, replaced, row_edged, serves_now, port_here, is_edged, moves, moving_stays, input_moves, read}
use Rattle.buffered_ports.proofs.ports.Ports.plain_rise.Goals as goal

pub invariant_of-self : goal.invariant_of-self
invariant_of-self c =
    row_edged c.self.inside c.args.p c.noted-self-inside.result c.self.inside.moving c.index-self-p.result c.rises_plainly.new.self
    (not c.has_bit-differs.result) true c.self.invariant c.requires.port c.rises_plainly.ensures.width c.rises_plainly.ensures.role
    (λ same. c.rises_plainly.ensures.same (was_full c.self.inside c.args.p c.index-self-p.result c.has_bit-differs.result c.self.invariant c.requires.port c.has_bit-differs.ensures same))
    (ready_where_full c.rises_plainly.new.self.port c.rises_plainly.ensures.plain c.rises_plainly.ensures.full) c.noted-self-inside.ensures.its c.noted-self-inside.ensures.same c.noted-self-inside.ensures.others (λ plain. c.rises_plainly.ensures.plain)
    (moving_stays c.self.inside c.args.p c.index-self-p.result c.rises_plainly.new.self c.self.invariant c.requires.port
    (input_moves c.rises_plainly.new.self.port c.rises_plainly.ensures.plain.on c.rises_plainly.ensures.plain.output ∙ sym (ap moves
    (read c.self.inside.ports c.args.self.now c.args.p c.index-self-p.result c.self.view_is (omega (arith, c.requires.port, c.self.invariant.count))) ∙ input_moves (port_at c.args.self.now c.args.p) c.requires.plain.on c.requires.plain.output)))

pub returns-clause-port : goal.returns-clause-port
returns-clause-port c high =
    let inside : c.args.p < length c.self.inside.ports = omega (arith, c.requires.port, c.self.invariant.count) in
    sym (port_here c.self.inside.ports c.args.p c.rises_plainly.new.self inside
    ∙ ap (λ (that : PortOf). that.port) (c.rises_plainly.ensures.port high)
    ∙ read_on (λ width port. rises width (level_of port.driven c.args.outside) high port) c.self.inside.ports c.args.self.now c.args.p _ c.self.view_is inside (c.self.invariant.placed c.args.p) c.requires.plain.on)

pub returns-clause-ports : goal.returns-clause-ports
returns-clause-ports c =
    let inside : c.args.p < length c.self.inside.ports = omega (arith, c.requires.port, c.self.invariant.count) in
    replaced c.self.inside.ports c.args.self.now c.args.p c.rises_plainly.new.self _ c.self.view_is (sym (port_here c.self.inside.ports c.args.p c.rises_plainly.new.self inside))

pub returns-clause-edged : goal.returns-clause-edged
returns-clause-edged c =
    let inside : c.args.p < length c.self.inside.ports = omega (arith, c.requires.port, c.self.invariant.count) in
    is_edged c.args.p _ _ _ _ (returns-clause-ports c) (λ same. serves_now c.self.inside.ports c.args.self.now c.args.p c.index-self-p.result c.rises_plainly.new.self c.self.view_is inside (c.rises_plainly.ensures.same (was_full c.self.inside c.args.p c.index-self-p.result c.has_bit-differs.result c.self.invariant c.requires.port c.has_bit-differs.ensures same)))
