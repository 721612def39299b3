use Rattle.std.proofs.Common.{◌≡◌, ap, ◌∙◌}
use Rattle.log_tests.proofs.link_logs_tests.what_is_published_is_read.Goals as goal

pub append-requires-2-clause-own : goal.append-requires-2-clause-own
append-requires-2-clause-own g c =
    let published : c.take-2.new.self.published ≡ 3 = ap (λ l. l.published) c.take-2.ensures.log ∙ ap (λ l. l.published) c.in_ok-append.ensures.log in
    rw published c.in_ok-append.ensures.batch
