use Rattle.std.proofs.Common.{◌≡◌}
use Rattle.wave_model.specs.Reads.{scope_in}
use Rattle.vcd_writer.proofs.NodeNumbers.{scope_from}
use Rattle.vcd_writer.proofs.named_lines.scope_in.Given as goal

-- none of the numbers so far is that of the line
abbrev pub invariant-loop-number : goal.invariant-loop-number
invariant-loop-number l = scope_in l.nodes l.line ≡ scope_from l.line l.number
