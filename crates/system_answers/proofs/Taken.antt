-- What an input stands for: of one that is too long the first bytes are enough.
use Rattle.std.proofs.Common.{◌≡◌, ℕ, ◌+◌, ◌<◌, ◌≤◌, true, min, List, length, take, sym, ap, ◌∙◌, refl, arith, inl, inr, nat_lt}
use Rattle.std.proofs.lemmas.Bool.{cases_lt}
use Rattle.std.proofs.lemmas.Bool.Decides.{nat_tests}
use Rattle.std.proofs.lemmas.List.{length-take, take_all}
use Rattle.sys_plan.specs.Plan.{PlanRec}
use Rattle.system_model.specs.declared.SysKind.TheVariants.{TooLong}
use Rattle.system_model.specs.System.{Plan, Frame, system_of, longest_input}
use Rattle.system_answers.specs.Taken.{TakenStandsForAll}

-- what is alike for all inputs that are too long is told by the bytes that are taken, at most one more than an input may have
pub of_taken : {A : Type 0} (told : List ℕ → A) (longest : ℕ) (refusal : A) → ((bytes : List ℕ) → longest < length bytes → told bytes ≡ refusal)
    → (bytes : List ℕ) → told (take (min (length bytes) (longest + 1)) bytes) ≡ told bytes
of_taken told longest refusal long bytes =
    let most = min (length bytes) (longest + 1) in
    elim (cases_lt longest (length bytes)) [
      | inl h ↦ long (take most bytes) (omega (arith, length-take most bytes)) ∙ sym (long bytes h)
      | inr h ↦ ap told (take_all most bytes (omega arith))
    ]

pub system_of-long : (bytes : List ℕ) → longest_input < length bytes → system_of bytes ≡ Frame 0 TooLong
unfolding system_of
system_of-long bytes h =
    let long : nat_lt longest_input (length bytes) ≡ true = grind (arith, nat_tests) in
    rw long refl

pub system_of-taken : TakenStandsForAll
system_of-taken bytes = of_taken system_of longest_input (Frame 0 TooLong) system_of-long bytes

-- a text that stands for a plan is not too long
pub planned-short : (bytes : List ℕ) (plan : PlanRec) → system_of bytes ≡ Plan plan → length bytes ≤ longest_input
planned-short bytes plan e =
    elim (cases_lt longest_input (length bytes)) [
      | inl h ↦ let apart : Frame 0 TooLong ≡ Plan plan = sym (system_of-long bytes h) ∙ e in absurd cc
      | inr h ↦ h
    ]
