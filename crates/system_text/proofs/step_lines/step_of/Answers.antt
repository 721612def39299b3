use Rattle.std.proofs.Common.{◌≡◌, length, arith}
use Rattle.std.proofs.lemmas.Bool.Decides.{nat_tests}
use Rattle.system_text.proofs.Steps.{no_step_of}
use Rattle.system_text.proofs.step_lines.step_of.Goals.{in_default-via-then-words-lt2, in_default-via-else-words-lt2+else-words-lt3+else-words-lt4}
use Rattle.system_text.proofs.step_lines.step_of.Goals as goal

pub returns-in_default : goal.returns-in_default
returns-in_default c =
    let two : length c.args.words.now ≡ 2 → ⊥ = elim c.in_default.branch [
      | in_default-via-then-words-lt2 w ↦ λ e. grind (arith, nat_tests)
      | in_default-via-else-words-lt2+else-words-lt3+else-words-lt4 w ↦ λ e. grind (arith, nat_tests)
    ] in
    let three : length c.args.words.now ≡ 3 → ⊥ = elim c.in_default.branch [
      | in_default-via-then-words-lt2 w ↦ λ e. grind (arith, nat_tests)
      | in_default-via-else-words-lt2+else-words-lt3+else-words-lt4 w ↦ λ e. grind (arith, nat_tests)
    ] in
    no_step_of c.args.words.now two three
