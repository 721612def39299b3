-- A slot more of the link ends of a node.
use Rattle.std.proofs.Common.{◌≡◌, ℕ, ◌+◌, ◌^◌, ◌<◌, ◌==◌, List, map, subst, arith}
use Rattle.xs_base.specs.declared.numbers.TheConstants.{LINK_ENDS, BUFFER_TOKENS}
use Rattle.sys_plan.specs.Plan.{PlanRec}
use Rattle.link_ends.specs.declared.state.EndState.{EndState}
use Rattle.core_step.specs.States.{link_state}
use Rattle.issue_model.specs.Seen.{node_after}
use Rattle.profile_model.specs.Sums.{one_if}
use Rattle.profile_model.specs.Counts.{end_after, is_slot}
use Rattle.run_counts.specs.declared.links.LinkCounts.{LinkCounts}
use Rattle.run_counts.specs.Tallies.{HasRoom, CountsEnds}
use Rattle.run_counts.specs.Counted.{AreLinks}
use Rattle.run_counts.proofs.Sums.{sum-more, how_many-few}

module _ (plan : PlanRec) (slot n : ℕ) where
  pub links-counted : (ends : List EndState) (before after : LinkCounts) → ends ≡ map link_state (node_after plan (slot + 1) n).links
      → AreLinks plan slot n before → CountsEnds slot ends before after → AreLinks plan (slot + 1) n after
  links-counted ends before after same counted counts =
      let more : CountsEnds slot (map link_state (node_after plan (slot + 1) n).links) before after =
      subst (λ (ends : List EndState). CountsEnds slot ends before after) same counts in
      record {
        tokens = λ e within. omega (arith, counted.tokens e within, more.tokens e within, sum-more (λ s. one_if (is_slot s (end_after plan n e s).last)) slot);
        full = λ e within. omega (arith, counted.full e within, more.full e within, sum-more (λ s. one_if ((end_after plan n e s).window == BUFFER_TOKENS)) slot);
      }

  pub tokens-room : (counts : LinkCounts) → AreLinks plan slot n counts → slot < 2 ^ 32 → (e : ℕ) → e < LINK_ENDS → HasRoom counts.tokens e
  tokens-room counts counted short e within = omega (arith, counted.tokens e within, how_many-few (λ s. is_slot s (end_after plan n e s).last) slot, short)

  pub full-room : (counts : LinkCounts) → AreLinks plan slot n counts → slot < 2 ^ 32 → (e : ℕ) → e < LINK_ENDS → HasRoom counts.full e
  full-room counts counted short e within = omega (arith, counted.full e within, how_many-few (λ s. (end_after plan n e s).window == BUFFER_TOKENS) slot, short)
