use Rattle.std.proofs.Common.{◌≡◌, ◌<◌, ◌^◌, ℕ, Bool, true, false, List, length, if◌then◌else◌, refl, arith, nat_lt}
use Rattle.std.proofs.lemmas.Bool.Decides.{nat_tests}
use Rattle.system_model.specs.declared.SysKind.TheVariants.{TooLong}
use Rattle.system_model.specs.CodeLines.{IsOfPlan}
use Rattle.system_model.specs.System.{System, Frame, longest_input, system_of}
use Rattle.system_text.proofs.code_lines.read_code_lines.Goals as goal

not_too_long : (long : Bool) (read : System) → IsOfPlan (if long then Frame 0 TooLong else read) → long ≡ false
not_too_long true read h = absurd h
not_too_long false read h = refl

short : (bytes : List ℕ) → IsOfPlan (system_of bytes) → length bytes < 2 ^ 32
unfolding system_of
short bytes h = let within : nat_lt longest_input (length bytes) ≡ false = not_too_long _ _ h in grind (arith, nat_tests)

pub read_frame-requires : goal.read_frame-requires
read_frame-requires c = short c.args.bytes.now c.requires.plan
