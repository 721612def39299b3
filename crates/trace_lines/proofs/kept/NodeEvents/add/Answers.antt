use Rattle.std.proofs.Common.{◌≡◌, ◌+◌, ◌<◌, ◌≤◌, [], ◌∷◌, ◌++◌, length, cond, ap, ◌∙◌, arith}
use Rattle.std.specs.Prelude.{vec_len}
use Rattle.xs_model.specs.FirstEvents.{kept_at_most, first_events}
use Rattle.trace_lines.proofs.Keeping.{one_fits, kept-more, rest-none, kept-same, rest-more}
use Rattle.trace_lines.proofs.kept.NodeEvents.add.Goals as goal

pub returns-then-len-lt-KEPT_AT_MOST-clause-keeps :
    goal.returns-then-len-lt-KEPT_AT_MOST-clause-keeps
returns-then-len-lt-KEPT_AT_MOST-clause-keeps c all keeps =
    let first : c.self.inside.events.items ≡ first_events all = ap (λ k. k.events) c.self.view_is ∙ keeps.first in
    let few : length c.self.inside.events.items < kept_at_most = omega arith in
    let spare : 1 ≤ c.self.inside.spare = omega (arith, c.requires.room, ap (λ k. k.spare) c.self.view_is, ap (λ k. length k.events) c.self.view_is) in
    let below : vec_len c.self.inside.events < kept_at_most = omega arith in
    let fits = c.push.ensures.succeeds (one_fits _ _ _ _ c.self.invariant.room below spare) in
    let added : c.push.new.self.items ≡ c.self.inside.events.items ++ c.args.e ∷ [] =
    c.push.ensures.items ∙ ap (λ b. cond b (c.self.inside.events.items ++ c.args.e ∷ []) c.self.inside.events.items) fits in
    record {
      first = added ∙ kept-more _ _ _ _ first few;
      rest = ap (λ k. k.more) c.self.view_is ∙ keeps.rest ∙ rest-none _ _ _ c.args.e first few;
    }

pub returns-else-len-lt-KEPT_AT_MOST-clause-keeps :
    goal.returns-else-len-lt-KEPT_AT_MOST-clause-keeps
returns-else-len-lt-KEPT_AT_MOST-clause-keeps c all keeps =
    let first : c.self.inside.events.items ≡ first_events all = ap (λ k. k.events) c.self.view_is ∙ keeps.first in
    let many : kept_at_most ≤ length c.self.inside.events.items = omega arith in
    record {
      first = kept-same _ _ _ c.args.e first many;
      rest = ap (λ m. m + 1) (ap (λ k. k.more) c.self.view_is ∙ keeps.rest) ∙ rest-more _ _ _ c.args.e first many;
    }
