use Rattle.std.proofs.Common.{not, ap, sym, subst, ◌∙◌, ◌<◌, length, arith}
use Rattle.std.proofs.lemmas.Bool.{cond-true}
use Rattle.std.specs.Prelude.{is_some}
use Rattle.xs_model.specs.PortActions.{Refused}
use Rattle.single_port.specs.Asks.{acted, port_after}
use Rattle.buffered_ports.specs.Asks.{port_at}
use Rattle.buffered_ports.proofs.Row.{IsNoted, read, replaced, row_replaced, by_bit}
use Rattle.buffered_ports.proofs.ports.Ports.act.Goals as goal

pub invariant_of-self : goal.invariant_of-self
invariant_of-self c =
    row_replaced c.self.inside c.args.port c.act-answer.new.self _ _ _ _ _ c.self.invariant c.requires.port c.act-answer.ensures.placed
    (subst (IsNoted _ c.self.inside.on c.args.port) c.is_on.ensures.on (by_bit _ _ _ _ (omega (arith, c.requires.port)) c.with_bit-self-inside.ensures))
    (subst (IsNoted _ c.self.inside.ready c.args.port) c.is_ready.ensures (by_bit _ _ _ _ (omega (arith, c.requires.port)) c.with_bit-self-inside-2.ensures))
    (subst (IsNoted _ c.self.inside.strobed c.args.port) (c.is_some.ensures ∙ ap (λ strobe. is_some strobe) c.strobe.ensures.value) (by_bit _ _ _ _ (omega (arith, c.requires.port)) c.with_bit-self-inside-3.ensures))
    (subst (IsNoted _ c.self.inside.moving c.args.port) (ap not c.is_still.ensures) (by_bit _ _ _ _ (omega (arith, c.requires.port)) c.with_bit-self-inside-4.ensures))
    (by_bit _ _ _ _ (omega (arith, c.requires.port)) c.with_bit-self-inside-5.ensures).others
    (λ noted. c.is_plain.ensures.plain (sym (by_bit _ _ _ c.is_plain.result (omega (arith, c.requires.port)) c.with_bit-self-inside-5.ensures).its ∙ noted))

pub returns-clause-port : goal.returns-clause-port
returns-clause-port c =
    let inside : c.args.port < length c.self.inside.ports = omega (arith, c.requires.port, c.self.invariant.count) in
    replaced c.self.inside.ports c.args.self.now c.args.port c.act-answer.new.self _ c.self.view_is
    (c.act-answer.ensures.port
    ∙ ap (λ port. port_after port (acted c.args.ask c.args.port c.args.pin port)) (read c.self.inside.ports c.args.self.now c.args.port c.index-self-port.result c.self.view_is inside)
    ∙ ap (port_after (port_at c.args.self.now c.args.port)) (sym (cond-true _ (acted c.args.ask c.args.port c.args.pin (port_at c.args.self.now c.args.port)) Refused (sym c.allows.ensures ∙ c.if-not-allows.false))))
