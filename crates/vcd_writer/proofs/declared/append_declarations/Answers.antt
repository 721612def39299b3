use Rattle.std.proofs.lemmas.Result.{on_ok_weaker}
use Rattle.sys_plan.specs.Plan.{node_numbers}
use Rattle.wave_model.specs.Lines.{nodes_lines}
use Rattle.vcd_writer.proofs.Scopes.{all_declared}
use Rattle.vcd_writer.proofs.declared.append_declarations.Goals as goal

pub returns : goal.returns
returns c = on_ok_weaker c.append-2.result
    (all_declared (nodes_lines 0 (node_numbers c.args.plan.now)) c.args.out.now _ _ _ c.in_ok-append.ensures.ok c.in_ok-append_nodes.ensures)
    c.append-2.ensures.ok
