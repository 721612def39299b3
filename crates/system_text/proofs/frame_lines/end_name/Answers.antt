use Rattle.std.proofs.Common.{refl, arith}
use Rattle.system_text.proofs.Forms.{name_is, name_none, told}
use Rattle.system_text.proofs.frame_lines.end_name.Goals as goal

pub returns-then-colon-word : goal.returns-then-colon-word
returns-then-colon-word c = name_none c.args.word.now _ c.before_colon-colon.ensures.value (omega arith)

pub returns-in_err-any_number : goal.returns-in_err-any_number
returns-in_err-any_number c = told _ _ _ c.from_residual.ensures.1 (rw (name_is c.args.word.now _ c.before_colon-colon.ensures.value, ← c.in_err-any_number.ensures) refl)

pub returns-in_err-any_number-2 : goal.returns-in_err-any_number-2
returns-in_err-any_number-2 c =
    told _ _ _ c.from_residual-in_err-any_number-2.ensures.1 (rw (name_is c.args.word.now _ c.before_colon-colon.ensures.value, ← c.in_ok-any_number.ensures, ← c.in_err-any_number-2.ensures) refl)

pub returns : goal.returns
returns c = rw (name_is c.args.word.now _ c.before_colon-colon.ensures.value, ← c.in_ok-any_number.ensures, ← c.in_ok-any_number-2.ensures) refl
