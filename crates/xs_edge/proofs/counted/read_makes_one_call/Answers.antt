use Rattle.std.proofs.Common.{length}
use Rattle.xs_edge.proofs.Counts.{one_call, where_ok, where_failed}
use Rattle.xs_edge.proofs.counted.read_makes_one_call.Goals as goal

pub returns : goal.returns
returns g c =
    let made = one_call (λ counted. counted.calls) _ (length c.read.new.buf) _ _ c.read.ensures.gives in
    record { once = where_ok _ _ _ made; failed = where_failed _ _ _ made }
