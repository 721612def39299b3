use Rattle.std.proofs.Common.{ℕ, map, sym, ap, ◌∙◌, subst}
use Rattle.core_step.specs.States.{link_state}
use Rattle.issue_model.specs.Seen.{node_after}
use Rattle.run_counts.specs.Counted.{AreLinks}
use Rattle.run_counts.proofs.EndSlots.{links-counted, tokens-room, full-room}
use Rattle.run_counts.proofs.nodes.NodeCounts.count.Goals as goal

pub count-requires-clause-tokens : goal.count-requires-clause-tokens
count-requires-clause-tokens c =
    let a = c.args in
    let before = subst (AreLinks a.run.now.plan a.slot a.n) (sym c.count_threads.ensures.links) c.requires.before.links in
    tokens-room a.run.now.plan a.slot a.n c.count_threads.new.self.links before c.ranges.slot.fits

pub count-requires-clause-full : goal.count-requires-clause-full
count-requires-clause-full c =
    let a = c.args in
    let before = subst (AreLinks a.run.now.plan a.slot a.n) (sym c.count_threads.ensures.links) c.requires.before.links in
    full-room a.run.now.plan a.slot a.n c.count_threads.new.self.links before c.ranges.slot.fits

pub returns : goal.returns
returns c =
    let a = c.args in
    let plan = a.run.now.plan in
    let before = subst (AreLinks plan a.slot a.n) (sym c.count_threads.ensures.links) c.requires.before.links in
    let ends = c.link_ends.ensures (node_after plan a.run.now.now a.n) c.core.ensures.stands.stands ∙ ap (λ (now : ℕ). map link_state (node_after plan now a.n).links) c.requires.tells.passed in
    record {
      counted = record {
        threads = c.count_threads.ensures.threads;
        places = c.count_threads.ensures.places;
        links = links-counted plan a.slot a.n c.link_ends.result c.count_threads.new.self.links c.count.new.self ends before c.count.ensures.counted;
      };
    }
