use Rattle.std.proofs.Common.{◌≡◌, sym, ◌∙◌, arith}
use Rattle.link_logs.specs.Entries.{between, tokens_in, credits_in}
use Rattle.link_logs.proofs.Stretches.{entries_go_on}
use Rattle.link_logs.proofs.log.Log.append.Goals as goal

pub invariant_of-self-2 : goal.invariant_of-self-2
invariant_of-self-2 g c =
    let log = c.self.view_is in
    let inside = c.self.inside in
    let at = g.S.Story.entries_at (g.S.Story.run inside.story) (g.S.Story.number inside.story) in
    let old : inside.published ≡ c.args.self.now.published = λ i. (log i).published in
    let own : c.args.batch.now.entries ≡ between at inside.published c.args.upto =
    c.requires.own ∙ sym (λ i. between (g.S.Story.entries_at (log i).run (log i).number) (log i).published c.args.upto) in
    record {
      on = omega (arith, c.self.invariant.on, c.requires.on, old);
      own = c.in_ok-put_after.ensures.held ∙ entries_go_on at c.self.invariant c.args.upto (omega (arith, c.requires.on, old)) c.args.batch.now.entries own;
      all_tokens = c.totals_at-tokens.ensures.tokens ∙ sym (λ i. tokens_in (between (g.S.Story.entries_at (log i).run (log i).number) 0 c.args.upto));
      all_credits = c.totals_at-tokens.ensures.credits ∙ sym (λ i. credits_in (between (g.S.Story.entries_at (log i).run (log i).number) 0 c.args.upto));
    }
