use Rattle.std.proofs.Common.{sym, ap, ◌∙◌}
use Rattle.system_text.proofs.frame.Frame.judge_outside.Goals as goal

pub returns-in-None : goal.returns-in-None
returns-in-None c = c.judge_first.ensures c.args.self.now (ap (λ g. g.edition) (sym c.self.view_is) ∙ c.in-None.is) c.requires
