use Rattle.std.proofs.Common.{length, ap, arith}
use Rattle.made_text.proofs.Sums.{kept_count}
use Rattle.made_text.proofs.totals.count_of.Goals as goal

pub returns-clause-count : goal.returns-clause-count
returns-clause-count c = λ all keeps.
    omega (arith, ap length c.events.ensures.value, c.from.ensures, c.more.ensures, kept_count c.args.events.now all keeps)

pub returns-clause-most : goal.returns-clause-most
returns-clause-most c = omega (arith, c.events.ensures.bound, c.from.ensures, c.more.type_inv)
