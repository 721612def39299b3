use Rattle.std.proofs.Common.{◌≡◌, suc, ◌+◌, ◌++◌, ap, ◌∙◌, arith}
use Rattle.issue_model.specs.Issues.{lines_from}
use Rattle.issue_model.specs.Watch.{slot_watched}
use Rattle.issue_text.specs.NodeSlots.{numbers_of}
use Rattle.issue_text.proofs.Kept.{and-more}
use Rattle.issue_text.proofs.watch_run.watch_slots.Goals as goal

pub loop-run-preserved : goal.loop-run-preserved
loop-run-preserved c =
    let kept = c.loop-run.invariant in
    let its = c.in_ok-watch_slot.ensures in
    let numbers = numbers_of c.args.sources.now in
    let now = c.loop-run.run.now in
    let lines = slot_watched c.args.run.now.plan numbers c.args.watched.now.addresses.now in
    let here : now ≡ 0 + now = omega arith in
    let next : suc now ≡ c.watch_slot.new.run.now = omega (arith, its.passed) in
    record {
      plan = its.plan ∙ kept.plan;
      within = omega (arith, its.passed, c.now.ensures, c.loop-run-test.true);
      addresses = its.addresses ∙ kept.addresses;
      words = its.words ∙ kept.words;
      count = its.count;
      lines =
          and-more c.args.kept.now c.loop-run.kept c.watch_slot.new.kept _ _ _ kept.lines its.lines
          ((λ i. lines_from lines 0 now ++ slot_watched (kept.plan i) numbers (kept.addresses i) (here i)) ∙ ap (lines_from lines 0) next);
    }
