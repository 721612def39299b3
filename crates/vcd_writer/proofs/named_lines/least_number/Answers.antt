use Rattle.std.proofs.Common.{◌<◌, ◌+◌, length, ap, ◌∙◌, arith}
use Rattle.std.proofs.lemmas.Grind.{common_steps}
use Rattle.vcd_writer.proofs.NodeNumbers.{least-last}
use Rattle.vcd_writer.proofs.named_lines.least_number.Goals as goal

pub returns-else-is_empty : goal.returns-else-is_empty
returns-else-is_empty c =
    let some : 0 < length c.args.nodes.now = grind (arith, common_steps) in
    ap (λ n. n + 1) c.from.ensures ∙ least-last c.args.nodes.now some
