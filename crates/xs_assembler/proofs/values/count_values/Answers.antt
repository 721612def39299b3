use Rattle.std.proofs.Common.{ap, arith}
use Rattle.xs_assembler.specs.Values.{left_length}
use Rattle.xs_assembler.proofs.Sizes.{tokens_short}
use Rattle.xs_assembler.proofs.values.count_values.Goals as goal

pub overflow_add-count : goal.overflow_add-count
overflow_add-count c =
    let left = ap left_length c.in-Some.is in
    omega (arith, c.loop-left.invariant.1, left, tokens_short 0 c.args.list.now)
