use Rattle.processor.proofs.NextIssues.{next_is}
use Rattle.processor.proofs.processor.Processor.next_issue.Goals as goal

pub returns-clause-value : goal.returns-clause-value
returns-clause-value c = next_is c.args.self.now c.picked.new.self c.args.slot c.in_ok-thread.thread c.choice.result c.in_ok-thread.ensures.value c.picked.ensures.unchanged c.choice.ensures
