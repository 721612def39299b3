use Rattle.std.proofs.Common.{◌≡◌, ◌++◌}
use Rattle.vcd_writer.proofs.Scopes.{begun_scope}
use Rattle.vcd_writer.proofs.declared.append_node.Given as goal

abbrev pub invariant-loop-port : goal.invariant-loop-port
invariant-loop-port l = l.out ≡ l.fn.out ++ begun_scope l.node l.number l.port
