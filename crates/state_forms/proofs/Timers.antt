-- The laws of timers and clock blocks.
use Rattle.std.proofs.Common.{◌≡◌, ℕ, ◌<◌, List, length, refl}
use Rattle.std.proofs.lemmas.List.Elements.{recursion_from_All}
use Rattle.std.specs.List.{All}
use Rattle.timers_clocks.specs.declared.state.TimerState.{TimerState}
use Rattle.timers_clocks.specs.declared.state.ClockState.{ClockState}
use Rattle.byte_forms.specs.Forms.{repeat}
use Rattle.byte_forms.specs.Laws.{Lawful}
use Rattle.byte_forms.proofs.Fields.{byte-lawful, word-lawful}
use Rattle.byte_forms.proofs.Parts.{both-lawful, flag-lawful, seen-lawful}
use Rattle.state_forms.proofs.Holding.{flag_holds, repeat_of, each_as}
use Rattle.state_forms.specs.Timers.{timer, timer_of_fields, timer_fields, clock, clock_of_fields, clock_fields}

pub timer-lawful : Lawful timer
unfolding timer
timer-lawful = seen-lawful timer_of_fields timer_fields (both-lawful flag-lawful (λ used. both-lawful flag-lawful (λ after. word-lawful))) (λ p h. refl) (λ state. refl)

pub clock-lawful : Lawful clock
unfolding clock
clock-lawful = seen-lawful clock_of_fields clock_fields (both-lawful flag-lawful (λ on. both-lawful flag-lawful (λ running. byte-lawful))) (λ p h. refl) (λ state. refl)

-- ---- Which have the form: all whose numbers are in their ranges

pub timer_of : (state : TimerState) → state.value < 4294967296 → timer.Holds state
unfolding timer
timer_of state fits = (flag_holds state.used, (flag_holds state.after, fits))

pub clock_of : (state : ClockState) → state.div < 256 → clock.Holds state
unfolding clock
clock_of state fits = (flag_holds state.on, (flag_holds state.running, fits))

pub timers_of : (n : ℕ) (states : List TimerState) → length states ≡ n → All (λ (state : TimerState). state.value < 4294967296) states → (repeat n timer).Holds states
timers_of n states len fits = repeat_of timer n states len (each_as timer_of states (recursion_from_All (λ (state : TimerState). state.value < 4294967296) states fits))

pub clocks_of : (n : ℕ) (states : List ClockState) → length states ≡ n → All (λ (state : ClockState). state.div < 256) states → (repeat n clock).Holds states
clocks_of n states len fits = repeat_of clock n states len (each_as clock_of states (recursion_from_All (λ (state : ClockState). state.div < 256) states fits))
