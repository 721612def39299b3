use Rattle.std.proofs.Common.{◌≡◌, [], ◌∷◌, ◌++◌, ap, ◌∙◌}
use Rattle.log_tests.proofs.link_logs_tests.what_is_published_by_and_by_is_read_at_once.Goals as goal

pub append-requires-2-clause-own : goal.append-requires-2-clause-own
append-requires-2-clause-own g c =
    let published : c.append.new.self.published ≡ 15 = ap (λ l. l.published) c.in_ok-append.ensures.log in
    rw published (c.add-2.ensures.entries ∙ (λ i. (c.reserve-2.ensures.entries ∙ c.in_ok-append.ensures.batch) i ++ c.byte_in-2.ensures i ∷ []))
