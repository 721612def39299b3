-- Which thread issues in a slot.
use Rattle.std.specs.Prelude.{suc, ◌+◌, Bool, true, false, ◌&&◌, ◌||◌, nat_le, nat_lt, if◌then◌else◌, Option, Some, None, is_some, List, [], ◌∷◌}
use Rattle.xs_base.specs.Numbers.{Slot, ThreadNumber}
use Rattle.xs_model.specs.declared.thread.Run.{Run}
use Rattle.xs_model.specs.declared.thread.Run.TheVariants.{Going, Paused}
use Rattle.xs_model.specs.Record.{CoreRec, thread_of, last_of}
use Rattle.xs_model.specs.Waits.{holds}
use Rattle.xs_model.specs.Choices.{choice}

-- a thread may issue in the fourth slot after its last issue, and later
abbrev pub is_rested : Option Slot → Slot → Bool
is_rested None slot = true
is_rested (Some last) slot = nat_le (last + 4) slot

-- whether a thread goes, or what pauses it holds
abbrev pub goes_or_holds : CoreRec → Slot → Run → Bool
goes_or_holds core slot Going = true
goes_or_holds core slot (Paused wait) = holds core slot wait
goes_or_holds core slot _ = false

abbrev pub is_paused : Run → Bool
is_paused (Paused wait) = true
is_paused _ = false

-- whether a thread would issue if it were rested: it goes, or what pauses it holds, or it is paused and has a choice
abbrev pub is_able : CoreRec → ThreadNumber → Slot → Bool
is_able core k slot = let run = (thread_of core k).run in goes_or_holds core slot run || (is_paused run && is_some (choice core slot k))

-- whether a thread may issue in a slot
abbrev pub eligible : CoreRec → ThreadNumber → Slot → Bool
eligible core k slot = is_able core k slot && is_rested (last_of core k) slot

-- never is before every slot
abbrev pub is_earlier : Option Slot → Option Slot → Bool
is_earlier None None = false
is_earlier None (Some b) = true
is_earlier (Some a) None = false
is_earlier (Some a) (Some b) = nat_lt a b

-- the better of a thread and the best of those after it: the earlier last issue, among equals the lower number
abbrev pub earliest : ThreadNumber → Option Slot → Option (ThreadNumber × Option Slot) → ThreadNumber × Option Slot
earliest k last None = (k, last)
earliest k last (Some best) = if is_earlier best.1 last then best else (k, last)

-- Of the threads from number k on, with these last issues, the best one that may issue, with its last issue.
unfoldable pub best_from : (ThreadNumber → Bool) → ThreadNumber → List (Option Slot) → Option (ThreadNumber × Option Slot)
best_from may k [] = None
best_from may k (last ∷ rest) =
    let others = best_from may (suc k) rest in if may k then Some (earliest k last others) else others

abbrev pub number_of_best : Option (ThreadNumber × Option Slot) → Option ThreadNumber
number_of_best None = None
number_of_best (Some best) = Some best.0

-- of the threads that may issue, with these last issues, the one with the earliest, among equals the lowest number
abbrev pub pick : (ThreadNumber → Bool) → List (Option Slot) → Option ThreadNumber
pick may last = number_of_best (best_from may 0 last)

-- the thread that issues in a slot
abbrev pub picked : CoreRec → Slot → Option ThreadNumber
picked core slot = pick (λ k. eligible core k slot) core.slots.last
