use Rattle.std.proofs.Common.{sym, ◌∙◌, subst}
use Rattle.step_model.specs.Step.{Issued}
use Rattle.processor.specs.Issue.{IsLeft}
use Rattle.processor.proofs.Issues.{nothing_happened, issue_taken, issue_executed}
use Rattle.processor.proofs.processor.Processor.issue_by.Goals as goal

pub returns-in-Some : goal.returns-in-Some
returns-in-Some g c = λ here at.
    subst (λ (i : Issued). IsLeft c.args.slot c.args.out.now c.enter.new.self c.args.out.now i)
    (issue_taken c.args.program.now.code here c.args.self.now c.begin.new.self c.args.slot c.args.k at.place.slot c.begin.ensures.units c.in-Some.choice (sym c.in-Some.is ∙ c.choice.ensures))
    (record { units = c.enter.ensures; events = nothing_happened c.args.out.now c.args.slot })

pub returns-in-None : goal.returns-in-None
returns-in-None g c = λ here at.
    subst (λ (i : Issued). IsLeft c.args.slot c.args.out.now c.execute_at.new.self c.execute_at.new.out i)
    (issue_executed c.args.program.now.code here c.args.self.now c.begin.new.self c.args.slot c.args.k at.place.slot c.begin.ensures.units (sym c.in-None.is ∙ c.choice.ensures))
    (c.execute_at.ensures here at)
