use Rattle.std.proofs.Common.{◌≡◌, length, refl, arith}
use Rattle.std.proofs.lemmas.Bool.Decides.{nat_tests}
use Rattle.system_text.proofs.Forms.{source_other, source_is, told}
use Rattle.system_text.proofs.frame_lines.source_line.Goals.{in_default-via-then-words-lt1, in_default-via-else-words-lt1+else-words-lt2}
use Rattle.system_text.proofs.frame_lines.source_line.Goals as goal

pub returns-in_default : goal.returns-in_default
returns-in_default c =
    let other : length c.args.words.now ≡ 1 → ⊥ = elim c.in_default.branch [
      | in_default-via-then-words-lt1 w ↦ λ e. grind (arith, nat_tests)
      | in_default-via-else-words-lt1+else-words-lt2 w ↦ λ e. grind (arith, nat_tests)
    ] in
    source_other c.args.words.now other

pub returns-in_err-number : goal.returns-in_err-number
returns-in_err-number c =
    let is = source_is c.args.words.now (omega arith) (omega arith) in
    told _ _ _ c.from_residual.ensures.1 (rw (is, ← c.in_err-number.ensures) refl)

pub returns-in_err-up_to : goal.returns-in_err-up_to
returns-in_err-up_to c =
    let is = source_is c.args.words.now (omega arith) (omega arith) in
    told _ _ _ c.from_residual-in_err-up_to.ensures.1 (rw (is, ← c.in_ok-number.ensures, ← c.in_err-up_to.ensures.value) refl)

pub returns : goal.returns
returns c =
    let is = source_is c.args.words.now (omega arith) (omega arith) in
    rw (is, ← c.in_ok-number.ensures, ← c.in_ok-up_to.ensures.value) refl
