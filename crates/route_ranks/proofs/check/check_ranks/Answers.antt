use Rattle.std.proofs.Common.{ℕ, length, ap, arith}
use Rattle.route_ranks.proofs.Lines.{ranks_count}
use Rattle.route_ranks.proofs.check.check_ranks.Goals as goal

pub verdict_of-requires : goal.verdict_of-requires
verdict_of-requires c = record {
  all = omega (arith, ap (length {A = ℕ}) c.as_slice.ensures.value, ap (length {A = ℕ}) c.ranks_by_link.ensures.value, ranks_count c.args.plan.now c.lines-lines.result.now);
}
