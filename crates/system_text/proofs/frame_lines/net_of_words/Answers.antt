use Rattle.std.proofs.Common.{arith}
use Rattle.std.proofs.lemmas.Bool.Decides.{nat_tests}
use Rattle.system_text.proofs.Forms.{net_other}
use Rattle.system_text.proofs.frame_lines.net_of_words.Goals as goal

pub returns-in_default : goal.returns-in_default
returns-in_default c = net_other c.args.edition c.args.words.now (λ e. grind (arith, nat_tests)) (λ e. grind (arith, nat_tests))

pub returns-in_default-4 : goal.returns-in_default-4
returns-in_default-4 c = net_other c.args.edition c.args.words.now (λ e. grind (arith, nat_tests)) (λ e. grind (arith, nat_tests))
