use Rattle.std.proofs.Common.{ℕ, ◌≡◌, ◌+◌, ◌<◌, ◌≤◌, ◌^◌, List, sym, ◌∙◌, arith}
use Rattle.xs_base.specs.declared.entry.Entry.{Entry}
use Rattle.link_logs.specs.Entries.{between, tokens_in, credits_in}
use Rattle.link_logs.proofs.Stretches.{counts_fit, tokens_go_on, credits_go_on}
use Rattle.link_logs.proofs.log.Log.totals_at.Given.{Over}
use Rattle.link_logs.proofs.log.Log.totals_at.Goals.{After-self}
use Rattle.link_logs.proofs.log.Log.totals_at.Goals as goal

-- these are the totals of entries, and small
record AreTotals (all : List Entry) (tokens credits : ℕ) : Type 0 where
  tokens_are : tokens ≡ tokens_in all
  credits_are : credits ≡ credits_in all
  small : tokens + credits < 2 ^ 33

sums_are : (g : Over) (c : After-self g) → let story = c.self.inside.story in
    AreTotals (between (g.S.Story.entries_at (g.S.Story.run story) (g.S.Story.number story)) 0 c.args.upto) (c.self.inside.tokens + c.count-tokens.result.0) (c.self.inside.credits + c.count-tokens.result.1)
sums_are g c =
    let log = c.self.view_is in
    let inside = c.self.inside in
    let run = g.S.Story.run inside.story in
    let number = g.S.Story.number inside.story in
    let at = g.S.Story.entries_at run number in
    let upto = c.args.upto in
    let old : inside.published ≡ c.args.self.now.published = λ i. (log i).published in
    let on : inside.published ≤ upto = omega (arith, c.requires.on, old) in
    let more = c.entries.result.now in
    let own : more ≡ between at inside.published upto =
    c.entries.ensures.value ∙ c.requires.own ∙ sym (λ i. between (g.S.Story.entries_at (log i).run (log i).number) (log i).published upto) in
    let tokens = tokens_go_on at c.self.invariant upto on more own c.count-tokens.result.0 c.count-tokens.ensures.tokens in
    let credits = credits_go_on at c.self.invariant upto on more own c.count-tokens.result.1 c.count-tokens.ensures.credits in
    record {
      tokens_are = tokens;
      credits_are = credits;
      small = omega (arith, tokens, credits, counts_fit at (g.met.S.Story.at_most_two run number) upto (omega (arith, c.ranges.upto.fits)));
    }

pub overflow_add-result : goal.overflow_add-result
overflow_add-result g c = omega (arith, (sums_are g c).small)

pub overflow_add-result-2 : goal.overflow_add-result-2
overflow_add-result-2 g c = omega (arith, (sums_are g c).small)

pub returns : goal.returns
returns g c =
    let log = c.self.view_is in
    let sums = sums_are g c in
    record {
      tokens = sums.tokens_are ∙ (λ i. tokens_in (between (g.S.Story.entries_at (log i).run (log i).number) 0 c.args.upto));
      credits = sums.credits_are ∙ (λ i. credits_in (between (g.S.Story.entries_at (log i).run (log i).number) 0 c.args.upto));
    }
