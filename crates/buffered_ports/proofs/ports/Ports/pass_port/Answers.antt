use Rattle.std.proofs.Common.{◌≡◌, ◌-◌, ◌<◌, false, ap, ◌∙◌, refl, length, arith}
use Rattle.std.proofs.lemmas.Bool.{false≢true}
use Rattle.quiet_model.specs.Clocks.{falls_in}
use Rattle.single_port.specs.Begins.{counted}
use Rattle.single_port.specs.Keeps.{PortOf}
use Rattle.buffered_ports.specs.Asks.{port_at}
use Rattle.buffered_ports.proofs.Row.{read, replaced, row_edged, moving_stays, still_moves}
use Rattle.buffered_ports.proofs.Counts.{counted_on}
use Rattle.buffered_ports.proofs.ports.Ports.pass_port.Goals as goal

pub invariant_of-self : goal.invariant_of-self
invariant_of-self c =
    row_edged c.self.inside c.args.p c.self.inside.ready c.self.inside.moving c.index-self-p.result c.counts.new.self false _ c.self.invariant c.requires.port
    (ap (λ (that : PortOf). that.width) c.counts.ensures.port) c.counts.ensures.role (λ same. c.counts.ensures.same) refl
    (λ differs. absurd (false≢true differs)) (λ same. refl) (λ k below other. refl) c.counts.ensures.plain
    (moving_stays c.self.inside c.args.p c.index-self-p.result c.counts.new.self c.self.invariant c.requires.port (still_moves _ _ c.counts.ensures.role c.counts.ensures.same))

pub returns : goal.returns
returns c =
    let inside : c.args.p < length c.self.inside.ports = omega (arith, c.requires.port, c.self.invariant.count) in
    let falls : c.falls-falls.result ≡ falls_in c.args.clocks.now (port_at c.args.self.now c.args.p).clock c.args.from (c.args.to - c.args.from) =
    c.falls-falls.ensures.value ∙ ap (λ clock. falls_in c.args.clocks.now clock c.args.from (c.args.to - c.args.from)) c.clock.ensures.value
    in
    replaced c.self.inside.ports c.args.self.now c.args.p c.counts.new.self _ c.self.view_is
    (ap (λ (that : PortOf). that.port) c.counts.ensures.port
    ∙ ap (counted c.falls-falls.result) (read c.self.inside.ports c.args.self.now c.args.p c.index-self-p.result c.self.view_is inside)
    ∙ counted_on c.args.clocks.now c.args.from (c.args.to - c.args.from) _ _ c.requires.on falls)
