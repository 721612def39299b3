-- What an input stands for: of one that is too long the first bytes are enough.
use Rattle.std.proofs.Common.{◌≡◌, ℕ, ◌+◌, ◌<◌, ◌≤◌, true, false, min, if◌then◌else◌, List, length, take, ap, refl, arith, nat_lt}
use Rattle.std.proofs.lemmas.Bool.Decides.{nat_tests}
use Rattle.system_model.specs.declared.SysKind.TheVariants.{TooLong}
use Rattle.system_model.specs.System.{longest_input}
use Rattle.rank_model.specs.Lines.{ranks_of}
use Rattle.pin_scripts.specs.Script.{NodeNumber}
use Rattle.wave_model.specs.Reads.{pins_of}
use Rattle.answer_model.specs.PinsForm.{answer_to_pins, pins_answer, too_long}
use Rattle.answer_model.specs.RoutesForm as found
use Rattle.answer_model.specs.RoutesForm.{routes_of, routes_after}
use Rattle.snap_codec.specs.declared.snap_kind.SnapKind.TheVariants as snap_kind
use Rattle.system_answers.proofs.Taken.{of_taken, planned-short}
use Rattle.snap_codec.specs.Snaps.{Fault, SnapRec, IsSnapOfSome, snap_of, longest_snapshot}

pub snap_of-long : (bytes : List ℕ) → longest_snapshot < length bytes → snap_of bytes ≡ Fault 0 snap_kind.TooLong
unfolding snap_of
snap_of-long bytes h =
    let long : nat_lt longest_snapshot (length bytes) ≡ true = grind (arith, nat_tests) in
    rw long refl

pub snap_of-taken : (bytes : List ℕ) → snap_of (take (min (length bytes) (longest_snapshot + 1)) bytes) ≡ snap_of bytes
snap_of-taken bytes = of_taken snap_of longest_snapshot (Fault 0 snap_kind.TooLong) snap_of-long bytes

pub routes_of-long : (bytes : List ℕ) → longest_input < length bytes → routes_of bytes ≡ found.Frame 0 TooLong
routes_of-long bytes h =
    let long : nat_lt longest_input (length bytes) ≡ true = grind (arith, nat_tests) in
    ap (λ long. if long then found.Frame 0 TooLong else routes_after bytes (ranks_of bytes)) long

pub routes_of-short : (bytes : List ℕ) → length bytes ≤ longest_input → routes_of bytes ≡ routes_after bytes (ranks_of bytes)
routes_of-short bytes h =
    let short : nat_lt longest_input (length bytes) ≡ false = grind (arith, nat_tests) in
    ap (λ long. if long then found.Frame 0 TooLong else routes_after bytes (ranks_of bytes)) short

pub routes_of-taken : (bytes : List ℕ) → routes_of (take (min (length bytes) (longest_input + 1)) bytes) ≡ routes_of bytes
routes_of-taken bytes = of_taken routes_of longest_input (found.Frame 0 TooLong) routes_of-long bytes

pub pins_answer-long : (node : NodeNumber) (bytes : List ℕ) → longest_input < length bytes → pins_answer node bytes ≡ too_long
pins_answer-long node bytes h =
    let long : nat_lt longest_input (length bytes) ≡ true = grind (arith, nat_tests) in
    ap (λ long. if long then too_long else answer_to_pins (pins_of bytes node)) long

pub pins_answer-taken : (node : NodeNumber) (bytes : List ℕ) → pins_answer node (take (min (length bytes) (longest_input + 1)) bytes) ≡ pins_answer node bytes
pins_answer-taken node bytes = of_taken (pins_answer node) longest_input too_long (pins_answer-long node) bytes

-- the text of a snapshot stands for a plan, so it is not too long
pub snap-short : (snap : SnapRec) → IsSnapOfSome snap → length snap.text ≤ longest_input
snap-short snap of_some = planned-short snap.text of_some.plan of_some.is.system
