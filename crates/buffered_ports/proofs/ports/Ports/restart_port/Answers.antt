use Rattle.std.proofs.Common.{◌<◌, false, ap, ◌∙◌, refl, length, arith}
use Rattle.std.proofs.lemmas.Bool.{false≢true}
use Rattle.xs_model.specs.PortActions.{restarted}
use Rattle.single_port.specs.Keeps.{PortOf}
use Rattle.buffered_ports.proofs.Row.{read, replaced, row_edged, moving_stays, still_moves}
use Rattle.buffered_ports.proofs.ports.Ports.restart_port.Goals as goal

pub invariant_of-self : goal.invariant_of-self
invariant_of-self c =
    row_edged c.self.inside c.args.p c.self.inside.ready c.self.inside.moving c.index-self-p.result c.restarted.new.self false _ c.self.invariant
    c.requires (ap (λ (that : PortOf). that.width) c.restarted.ensures.port) c.restarted.ensures.role (λ same. c.restarted.ensures.same) refl
    (λ differs. absurd (false≢true differs)) (λ same. refl) (λ k below other. refl) c.restarted.ensures.plain
    (moving_stays c.self.inside c.args.p c.index-self-p.result c.restarted.new.self c.self.invariant c.requires (still_moves _ _ c.restarted.ensures.role c.restarted.ensures.same))

pub returns : goal.returns
returns c =
    let inside : c.args.p < length c.self.inside.ports = omega (arith, c.requires, c.self.invariant.count) in
    replaced c.self.inside.ports c.args.self.now c.args.p c.restarted.new.self _ c.self.view_is
    (ap (λ (that : PortOf). that.port) c.restarted.ensures.port ∙ ap (restarted c.args.k) (read c.self.inside.ports c.args.self.now c.args.p c.index-self-p.result c.self.view_is inside))
