use Rattle.std.proofs.Common.{not, ap, sym, subst, ◌∙◌, arith}
use Rattle.std.specs.Prelude.{is_some}
use Rattle.single_port.specs.Keeps.{PortOf}
use Rattle.buffered_ports.proofs.Row.{IsNoted, replaced, row_replaced, by_bit}
use Rattle.buffered_ports.proofs.ports.Ports.put.Goals as goal

pub invariant_of-self : goal.invariant_of-self
invariant_of-self c =
    row_replaced c.self.inside c.args.p c.set_state.new.self _ _ _ _ _ c.self.invariant c.requires.port (λ on. ap (λ (that : PortOf). that.width) c.set_state.ensures)
    (subst (IsNoted _ c.self.inside.on c.args.p) c.is_on.ensures.on (by_bit _ _ _ _ (omega (arith, c.requires.port)) c.with_bit-self-inside.ensures))
    (subst (IsNoted _ c.self.inside.ready c.args.p) c.is_ready.ensures (by_bit _ _ _ _ (omega (arith, c.requires.port)) c.with_bit-self-inside-2.ensures))
    (subst (IsNoted _ c.self.inside.strobed c.args.p) (c.is_some.ensures ∙ ap (λ strobe. is_some strobe) c.strobe.ensures.value)
    (by_bit _ _ _ _ (omega (arith, c.requires.port)) c.with_bit-self-inside-3.ensures))
    (subst (IsNoted _ c.self.inside.moving c.args.p) (ap not c.is_still.ensures) (by_bit _ _ _ _ (omega (arith, c.requires.port)) c.with_bit-self-inside-4.ensures))
    (by_bit _ _ _ _ (omega (arith, c.requires.port)) c.with_bit-self-inside-5.ensures).others
    (λ noted. c.is_plain.ensures.plain (sym (by_bit _ _ _ c.is_plain.result (omega (arith, c.requires.port)) c.with_bit-self-inside-5.ensures).its ∙ noted))

pub returns : goal.returns
returns c = record { ports = replaced c.self.inside.ports c.args.self.now c.args.p c.set_state.new.self _ c.self.view_is (ap (λ (that : PortOf). that.port) c.set_state.ensures) }
