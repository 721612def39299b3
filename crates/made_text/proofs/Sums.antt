-- Sums over the numbers in a row from 0 on, one more each time.
use Rattle.std.proofs.Common.{◌≡◌, ℕ, suc, ◌+◌, ◌-◌, ◌<◌, ◌≤◌, List, length, ap, ◌∙◌, arith}
use Rattle.std.specs.Prelude.{sum_by}
use Rattle.std.specs.List.{range_with_len}
use Rattle.std.proofs.lemmas.List.{length-take}
use Rattle.std.proofs.lemmas.List.Sums.{sum_by-cons}
use Rattle.xs_model.specs.declared.event.Event.{Event}
use Rattle.xs_model.specs.FirstEvents.{kept_at_most}
use Rattle.trace_lines.specs.Kept.{KeptEvents, Keeps}

module _ (f : ℕ → ℕ) where
  -- the sum of the numbers that are left
  abbrev pub sum_left : ℕ → ℕ → ℕ
  sum_left i end = sum_by f (range_with_len i (end - i))

  left-cons : (i count left : ℕ) → left ≡ suc count → sum_by f (range_with_len i left) ≡ f i + sum_by f (range_with_len (i + 1) count)
  left-cons i count left e = ap (λ n. sum_by f (range_with_len i n)) e ∙ sum_by-cons f i (range_with_len (i + 1) count)

  -- from the sum so far and that of the numbers left, to that with one number more
  pub sum_more : (i end so_far more after all : ℕ) → i < end → more ≡ f i → after ≡ so_far + more → so_far + sum_left i end ≡ all → after + sum_left (i + 1) end ≡ all
  sum_more i end so_far more after all below is added h =
      omega (arith, left-cons i (end - (i + 1)) (end - i) (omega arith), is, added, h)

  none_left : (i end : ℕ) → end ≤ i → sum_left i end ≡ 0
  none_left i end h =
      let none : end - i ≡ 0 = omega arith in
      ap (λ n. sum_by f (range_with_len i n)) none

  pub sum_done : (i end so_far all : ℕ) → end ≤ i → so_far + sum_left i end ≡ all → so_far ≡ all
  sum_done i end so_far all past h = omega (arith, none_left i end past, h)

-- the events that are kept, and the count of the others
pub kept_count : (kept : KeptEvents) (all : List Event) → Keeps kept all → length kept.events + kept.more ≡ length all
kept_count kept all keeps =
    omega (arith, ap length keeps.first, length-take kept_at_most all, keeps.rest)
