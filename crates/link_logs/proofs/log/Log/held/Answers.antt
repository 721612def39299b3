use Rattle.std.proofs.Common.{◌≡◌, ◌∙◌, ap, length, arith}
use Rattle.xs_base.specs.declared.entry.Entry.{Entry}
use Rattle.link_logs.specs.Entries.{between}
use Rattle.link_logs.proofs.Stretches.{between_few}
use Rattle.link_logs.proofs.log.Log.held.Goals as goal

pub returns-clause-few : goal.returns-clause-few
returns-clause-few g c =
    let log = c.self.inside in
    let at = g.S.Story.entries_at (g.S.Story.run log.story) (g.S.Story.number log.story) in
    let base : log.base ≡ c.args.self.now.base = λ i. (c.self.view_is i).base in
    let published : log.published ≡ c.args.self.now.published = λ i. (c.self.view_is i).published in
    let same : length c.entries.result.now ≡ length (between at log.base log.published) = ap (length {A = Entry}) (c.entries.ensures.value ∙ c.self.invariant.own) in
    omega (arith, same, base, published, between_few at (g.met.S.Story.at_most_two (g.S.Story.run log.story) (g.S.Story.number log.story)) log.base log.published)
