use Rattle.std.proofs.Common.{◌≡◌, ℕ, ◌-◌, [], map, ◌∙◌, subst, arith, Vec, Global}
use Rattle.issue_model.specs.Issues.{slot_lines, lines_from}
use Rattle.issue_text.specs.Kept.{IsOf}
use Rattle.issue_text.proofs.issue_run.issues.Goals as goal

pub returns : goal.returns
returns c =
    let a = c.args in
    let numbers = map (λ (numbers : Vec ℕ Global). numbers.items) a.lines.now in
    let run = c.run.new.self in
    let plan : run.plan ≡ a.plan.now = c.in_ok-run-2.ensures.plan ∙ c.in_ok-run.ensures.plan in
    let now : run.now ≡ a.from = omega (arith, c.in_ok-run-2.ensures.ran, c.in_ok-run.ensures.now) in
    record {
      text =
          c.in_ok-text.ensures (lines_from (slot_lines a.plan.now numbers) a.from (a.slots - a.from))
          (subst (IsOf c.tell_slots.new.kept) (λ i. lines_from (slot_lines (plan i) numbers) (now i) (a.slots - now i)) (c.in_ok-tell_slots.ensures.lines [] c.new-kept.ensures.none));
    }
