use Rattle.std.proofs.Common.{refl, arith}
use Rattle.system_text.proofs.Forms.{told}
use Rattle.system_text.proofs.WireForms.{pin_is, pin_none}
use Rattle.system_text.proofs.wire_lines.pin_name.Goals as goal

pub returns-then-colon-word : goal.returns-then-colon-word
returns-then-colon-word c = pin_none c.args.word.now _ c.before_colon-colon.ensures.value (omega arith)

pub returns-in_err-node : goal.returns-in_err-node
returns-in_err-node c = told _ _ _ c.from_residual.ensures.1 (rw (pin_is c.args.word.now _ c.before_colon-colon.ensures.value, ← c.in_err-node.ensures) refl)

pub returns-in-Some : goal.returns-in-Some
returns-in-Some c = rw (pin_is c.args.word.now _ c.before_colon-colon.ensures.value, ← c.in_ok-node.ensures, ← c.in-Some.ensures.value) refl

pub returns-in-None : goal.returns-in-None
returns-in-None c = rw (pin_is c.args.word.now _ c.before_colon-colon.ensures.value, ← c.in_ok-node.ensures, ← c.in-None.ensures.value) refl
