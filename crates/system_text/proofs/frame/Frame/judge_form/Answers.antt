use Rattle.std.proofs.Common.{sym, ◌∙◌}
use Rattle.system_text.proofs.Judged.{form_not_allowed, form_refused, form_faulty, form_good}
use Rattle.system_text.proofs.frame.Frame.judge_form.Goals as goal

pub returns-then-not-all_allowed : goal.returns-then-not-all_allowed
returns-then-not-all_allowed c = form_not_allowed c.args.self.now c.args.line.now c.args.form c.requires (sym c.all_allowed.ensures ∙ c.if-not-all_allowed.true)

pub returns-in-Some : goal.returns-in-Some
returns-in-Some c =
    form_faulty c.args.self.now c.args.line.now c.args.form c.in-Ok.form c.in-Some.kind c.requires (sym c.all_allowed.ensures ∙ c.if-not-all_allowed.false) c.in-Ok.is
    c.in-Some.ensures

pub returns-in-None : goal.returns-in-None
returns-in-None c =
    form_good c.args.self.now c.args.line.now c.args.form c.in-Ok.form c.requires (sym c.all_allowed.ensures ∙ c.if-not-all_allowed.false) c.in-Ok.is c.in-None.ensures

pub returns-in-Err : goal.returns-in-Err
returns-in-Err c =
    form_refused c.args.self.now c.args.line.now c.args.form c.in-Err.kind c.requires (sym c.all_allowed.ensures ∙ c.if-not-all_allowed.false) c.in-Err.is
