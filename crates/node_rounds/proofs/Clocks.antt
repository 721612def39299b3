-- Whether all nodes are at the limit.
use Rattle.std.proofs.Common.{◌≡◌, ◌≢◌, ℕ, ◌<◌, true, false, eqb, List, length, get_or, sym, ap, ◌∙◌, arith, inl, inr}
use mathlib.Core.Logic.{◌⊎◌}
use Rattle.std.specs.Prelude.{All}
use Rattle.std.specs.List.{list_all}
use Rattle.std.proofs.lemmas.Bool.{cases_Bool}
use Rattle.std.proofs.lemmas.List.{get_or-map, length-map}
use Rattle.xs_base.specs.Numbers.{Slot}
use Rattle.node_runners.specs.Runner.{RunnerRec}
use Rattle.plan_lanes.specs.Lanes.{clocks_of}
use Rattle.round_laws.proofs.Positions.{test_of_each, each_to_test}
use Rattle.node_rounds.specs.declared.seat.Seat.{Seat}
use Rattle.node_rounds.specs.Seats.{told}
use Rattle.node_rounds.specs.Rounds.{all_told}
use Rattle.node_rounds.proofs.Places.{element}

abbrev clock_of : RunnerRec → ℕ
clock_of r = r.clock

pub clock_at : (seats : List Seat) (n : ℕ) (s : Seat) → n < length seats → get_or (clocks_of (all_told seats)) n 0 ≡ (get_or seats n s).runner.clock
clock_at seats n s h =
    get_or-map clock_of (all_told seats) n (told s) 0 (omega (arith, h, length-map seats told)) ∙ ap clock_of (get_or-map told seats n s (told s) h)

-- each node is at a slot
abbrev pub IsAtSlot : Slot → Seat → Type 0
IsAtSlot slot seat = seat.runner.clock ≡ slot

pub all_there : (limit : Slot) (seats : List Seat) → All (IsAtSlot limit) seats → list_all (λ clock. eqb clock limit) (clocks_of (all_told seats)) ≡ true
all_there limit seats all =
    each_to_test limit (clocks_of (all_told seats))
    (λ n h.
    let inside : n < length seats = omega (arith, h, length-map (all_told seats) clock_of, length-map seats told) in
    let s = (element seats n inside).0 in
    clock_at seats n s inside ∙ all n s inside)

pub one_not : (limit : Slot) (seats : List Seat) (n : ℕ) (s : Seat) → n < length seats → (get_or seats n s).runner.clock ≢ limit → list_all (λ clock. eqb clock limit) (clocks_of (all_told seats)) ≡ false
one_not limit seats n s h apart = by_case (cases_Bool (list_all (λ clock. eqb clock limit) (clocks_of (all_told seats))))
  where
    by_case : (list_all (λ clock. eqb clock limit) (clocks_of (all_told seats)) ≡ true) ⊎ (list_all (λ clock. eqb clock limit) (clocks_of (all_told seats)) ≡ false)
        → list_all (λ clock. eqb clock limit) (clocks_of (all_told seats)) ≡ false
    by_case (inl all) =
        absurd (apart (sym (clock_at seats n s h)
        ∙ test_of_each limit (clocks_of (all_told seats)) all n (omega (arith, h, length-map (all_told seats) clock_of, length-map seats told))))
    by_case (inr not) = not
