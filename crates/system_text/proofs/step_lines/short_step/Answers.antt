use Rattle.std.proofs.Common.{sym, ◌∙◌, refl}
use Rattle.system_text.proofs.Forms.{told}
use Rattle.system_text.proofs.Steps.{take_is, send_is, run_is, no_step}
use Rattle.system_text.proofs.step_lines.short_step.Goals as goal

pub returns-in_err-named_end : goal.returns-in_err-named_end
returns-in_err-named_end c =
    let is = take_is c.args.name.now c.args.word.now (sym c.same_name.ensures.value ∙ c.if-same_name.true) in
    told _ _ _ c.from_residual.ensures.1 (rw (is, ← c.in_err-named_end.ensures) refl)

pub returns-in_ok-named_end : goal.returns-in_ok-named_end
returns-in_ok-named_end c =
    let is = take_is c.args.name.now c.args.word.now (sym c.same_name.ensures.value ∙ c.if-same_name.true) in
    rw (is, ← c.in_ok-named_end.ensures) refl

pub returns-in_err-named_end-2 : goal.returns-in_err-named_end-2
returns-in_err-named_end-2 c =
    let is = send_is c.args.name.now c.args.word.now (sym c.same_name.ensures.value ∙ c.if-same_name.false) (sym c.same_name-else-same_name.ensures.value ∙ c.if-same_name-2.true) in
    told _ _ _ c.from_residual-in_err-named_end-2.ensures.1 (rw (is, ← c.in_err-named_end-2.ensures) refl)

pub returns-in_ok-named_end-2 : goal.returns-in_ok-named_end-2
returns-in_ok-named_end-2 c =
    let is = send_is c.args.name.now c.args.word.now (sym c.same_name.ensures.value ∙ c.if-same_name.false) (sym c.same_name-else-same_name.ensures.value ∙ c.if-same_name-2.true) in
    rw (is, ← c.in_ok-named_end-2.ensures) refl

pub returns-in_err-any_number : goal.returns-in_err-any_number
returns-in_err-any_number c =
    let is = run_is c.args.name.now c.args.word.now (sym c.same_name.ensures.value ∙ c.if-same_name.false) (sym c.same_name-else-same_name.ensures.value ∙ c.if-same_name-2.false)
    (sym c.same_name-else-same_name-2.ensures.value ∙ c.if-same_name-3.true) in
    told _ _ _ c.from_residual-in_err-any_number.ensures.1 (rw (is, ← c.in_err-any_number.ensures) refl)

pub returns-in_ok-any_number : goal.returns-in_ok-any_number
returns-in_ok-any_number c =
    let is = run_is c.args.name.now c.args.word.now (sym c.same_name.ensures.value ∙ c.if-same_name.false) (sym c.same_name-else-same_name.ensures.value ∙ c.if-same_name-2.false)
    (sym c.same_name-else-same_name-2.ensures.value ∙ c.if-same_name-3.true) in
    rw (is, ← c.in_ok-any_number.ensures) c.run.ensures

pub returns-else-same_name-3 : goal.returns-else-same_name-3
returns-else-same_name-3 c =
    no_step _ _ (sym c.same_name.ensures.value ∙ c.if-same_name.false) (sym c.same_name-else-same_name.ensures.value ∙ c.if-same_name-2.false)
    (sym c.same_name-else-same_name-2.ensures.value ∙ c.if-same_name-3.false)
