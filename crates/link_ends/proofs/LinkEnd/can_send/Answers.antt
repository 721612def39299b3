use Rattle.std.proofs.Common.{◌≡◌, ◌≤◌, ltb, ◌∙◌, arith, rules}
use Rattle.link_ends.specs.Counts.{can_send}
use Rattle.link_ends.proofs.Sends.{sends_as_counted}
use Rattle.link_ends.proofs.LinkEnd.can_send.Goals as goal

pub returns-then-self-lt-WINDOW_TOKENS-clause-stands : goal.returns-then-self-lt-WINDOW_TOKENS-clause-stands
returns-then-self-lt-WINDOW_TOKENS-clause-stands c =
    λ link of credited.
    let counted : c.gap_is_over.result ≡ can_send c.args.self.now c.args.slot = search rules in
    let some : 1 ≤ c.args.self.now.gap = grind arith in
    counted ∙ sends_as_counted c.args.self.now c.args.slot link some of credited

pub returns-else-self-lt-WINDOW_TOKENS-clause-stands : goal.returns-else-self-lt-WINDOW_TOKENS-clause-stands
returns-else-self-lt-WINDOW_TOKENS-clause-stands c =
    λ link of credited.
    let counted : ltb c.self.inside.outstanding 8 ≡ can_send c.args.self.now c.args.slot = search rules in
    let some : 1 ≤ c.args.self.now.gap = grind arith in
    counted ∙ sends_as_counted c.args.self.now c.args.slot link some of credited
