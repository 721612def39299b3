use Rattle.std.proofs.Common.{◌++◌, ap, ◌∙◌}
use Rattle.std.proofs.lemmas.Result.{on_ok_weaker}
use Rattle.vcd_writer.proofs.Texts.{begun_more}
use Rattle.vcd_writer.proofs.Scopes.{no_port, one_port_more, all_ports}
use Rattle.vcd_writer.proofs.declared.append_node.Goals as goal

pub loop-port-init : goal.loop-port-init
loop-port-init c = c.in_ok-append_scope.ensures ∙ ap (λ t. c.args.out.now ++ t) (no_port c.args.node c.args.number)

pub loop-port-preserved : goal.loop-port-preserved
loop-port-preserved c =
    begun_more c.args.out.now _ _ _ _ c.loop-port.invariant c.in_ok-append_var.ensures
    ∙ ap (λ t. c.args.out.now ++ t) (one_port_more c.args.node c.args.number c.loop-port.port c.loop-port-test.true)

pub returns : goal.returns
returns c =
    on_ok_weaker c.append.result
    (λ e. begun_more c.args.out.now _ _ _ _ c.loop-port.invariant e
    ∙ ap (λ t. c.args.out.now ++ t) (all_ports c.args.node c.args.number c.loop-port.port c.loop-port-test.false))
    c.append.ensures.ok
