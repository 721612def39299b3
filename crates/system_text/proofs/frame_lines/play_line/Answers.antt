use Rattle.std.proofs.Common.{arith}
use Rattle.std.proofs.lemmas.Bool.Decides.{nat_tests}
use Rattle.system_text.proofs.Forms.{play_is, play_other}
use Rattle.system_text.proofs.frame_lines.play_line.Goals as goal

pub returns-then-is_empty : goal.returns-then-is_empty
returns-then-is_empty c = play_is c.args.words.now (grind (arith, nat_tests))

pub returns-else-is_empty : goal.returns-else-is_empty
returns-else-is_empty c = play_other c.args.words.now (λ e. grind (arith, nat_tests))
