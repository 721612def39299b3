use Rattle.std.proofs.Common.{sym, ◌∙◌, refl}
use Rattle.system_text.proofs.Forms.{told}
use Rattle.system_text.proofs.Steps.{long_is, no_long}
use Rattle.system_text.proofs.step_lines.long_run.Goals as goal

pub returns-then-not-same_name : goal.returns-then-not-same_name
returns-then-not-same_name c = no_long _ _ _ (sym c.same_name.ensures.value ∙ c.if-not-same_name.true)

pub returns-in_err-any_number : goal.returns-in_err-any_number
returns-in_err-any_number c =
    let is = long_is c.args.name.now c.args.number.now c.args.count.now (sym c.same_name.ensures.value ∙ c.if-not-same_name.false) in
    told _ _ _ c.from_residual.ensures.1 (rw (is, ← c.in_err-any_number.ensures) refl)

pub returns-in_err-any_number-2 : goal.returns-in_err-any_number-2
returns-in_err-any_number-2 c =
    let is = long_is c.args.name.now c.args.number.now c.args.count.now (sym c.same_name.ensures.value ∙ c.if-not-same_name.false) in
    told _ _ _ c.from_residual-in_err-any_number-2.ensures.1 (rw (is, ← c.in_ok-any_number.ensures, ← c.in_err-any_number-2.ensures) refl)

pub returns : goal.returns
returns c =
    let is = long_is c.args.name.now c.args.number.now c.args.count.now (sym c.same_name.ensures.value ∙ c.if-not-same_name.false) in
    rw (is, ← c.in_ok-any_number.ensures, ← c.in_ok-any_number-2.ensures) c.run.ensures
