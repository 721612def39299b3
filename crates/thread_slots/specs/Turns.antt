-- The turn of a thread: one number that tells its last issue and the thread. The least turn is that of the thread to pick.
use Rattle.std.specs.Prelude.{◌≡◌, ℕ, suc, ◌+◌, ◌-◌, ◌*◌, ◌/◌, ◌^◌, ◌<◌, ◌≤◌, ◌==◌, Bool, true, if◌then◌else◌, Option, Some, None, List, [], ◌∷◌, length, map, slice_index, EachIndex, refl}
use Rattle.std.proofs.Common.{ap, ap₂, sym, ◌∙◌, get_or, arith}
use Rattle.xs_base.specs.Numbers.{Slot, ThreadNumber}
use Rattle.xs_base.specs.declared.numbers.TheConstants.{THREADS}

-- the first slot in which a thread is rested: with its last issue, the fourth slot after it
abbrev pub rested_from : Option Slot → Slot
rested_from None = 0
rested_from (Some last) = last + 4

abbrev pub turn_of : ThreadNumber → Option Slot → ℕ
turn_of k last = 8 * rested_from last + k

-- the last issue again, from a turn
abbrev pub last_in : ℕ → Option Slot
last_in turn = if turn / 8 == 0 then None else Some (turn / 8 - 4)

-- the turns of the threads from number k on, with these last issues
abbrev pub turns_from : ThreadNumber → List (Option Slot) → List ℕ
turns_from k [] = []
turns_from k (last ∷ rest) = turn_of k last ∷ turns_from (suc k) rest

-- a turn of this thread, with a last issue that is a `u32` or never was
pub record IsTurnOf (k turn : ℕ) : Type 0 where
  pub its : turn ≡ turn_of k (last_in turn)
  pub fits : turn < 8 * (2 ^ 32 + 4)

pub record AreTurns (turns : List ℕ) : Type 0 where
  pub threads : length turns ≡ THREADS
  pub each : EachIndex turns (λ k. IsTurnOf k (slice_index turns k))

-- the turns again, from the last issues in them
from_issues : (k : ℕ) (turns : List ℕ) → ((i : ℕ) → i < length turns → get_or turns i 0 ≡ turn_of (k + i) (last_in (get_or turns i 0))) → turns_from k (map last_in turns) ≡ turns
from_issues k [] are = refl
from_issues k (turn ∷ rest) are =
    let first : turn ≡ turn_of (k + 0) (last_in turn) = are 0 (omega arith) in
    let number : k + 0 ≡ k = omega arith in
    let here : turn_of k (last_in turn) ≡ turn = sym (first ∙ ap (λ n. turn_of n (last_in turn)) number) in
    let others : turns_from (suc k) (map last_in rest) ≡ rest =
    from_issues (suc k) rest (λ i h. let moved : k + suc i ≡ suc k + i = omega arith in are (suc i) (omega arith) ∙ ap (λ n. turn_of n (last_in (get_or rest i 0))) moved)
    in
    ap₂ (λ t ts. t ∷ ts) here others

pub turns_again : (turns : List ℕ) → AreTurns turns → turns_from 0 (map last_in turns) ≡ turns
turns_again turns are =
    from_issues 0 turns (λ i h. let number : i ≡ 0 + i = omega arith in (are.each i h).its ∙ ap (λ n. turn_of n (last_in (get_or turns i 0))) number)

-- the least turn of the threads that pass a test, or the largest u64 where none does
pub record IsLeast (test : ThreadNumber → Bool) (turns : List ℕ) (turn : ℕ) : Type 0 where
  pub least : (k : ℕ) → k < THREADS → test k ≡ true → turn ≤ slice_index turns k
  pub its : turn < 2 ^ 64 - 1 → (k : ℕ) × (k < THREADS) × (test k ≡ true) × (turn ≡ slice_index turns k)
