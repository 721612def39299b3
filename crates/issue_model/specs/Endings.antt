-- How an issue ended, and where the thread goes on, in words.
use Rattle.std.specs.Prelude.{ℕ, Bool, true, false, ◌==◌, nat_lt, if◌then◌else◌, Option, Some, None, List, [], ◌++◌, codes, decimal}
use Rattle.xs_base.specs.Numbers.{Word, NodeId}
use Rattle.xs_base.specs.declared.numbers.TheConstants.{PORTS}
use Rattle.xs_base.specs.Words.{word_sum}
use Rattle.xs_model.specs.declared.thread.Run.{Run}
use Rattle.xs_model.specs.declared.thread.Run.TheVariants.{Free, Paused, Halted}
use Rattle.xs_model.specs.declared.thread.Thread.{Thread}
use Rattle.xs_model.specs.declared.thread.Wait.{Wait}
use Rattle.xs_model.specs.declared.thread.Wait.TheVariants as wait
use Rattle.event_unit.specs.declared.answers.Choice.{Choice}
use Rattle.trace_model.specs.EventLines.{hex_word, port_name}
use Rattle.look_model.specs.Resources.{chan_name, timer_name, sync_name, lock_name}
use Rattle.issue_model.specs.declared.Ending.{Ending}
use Rattle.issue_model.specs.declared.Ending.TheVariants as ending

abbrev pub ending_of_run : Run → Ending
ending_of_run (Paused wait) = ending.Paused wait
ending_of_run Free = ending.Ended
ending_of_run _ = ending.Done

-- by what the thread took, whether it trapped, and what it does then
abbrev pub ending_of : Option Choice → Bool → Run → Ending
ending_of (Some choice) traps run = ending.Took choice.interrupt
ending_of None true run = ending.Trapped
ending_of None false run = ending_of_run run

-- whether the instruction was done
abbrev pub is_done : Ending → Bool
is_done ending.Ended = true
is_done ending.Done = true
is_done _ = false

-- ---- In words

-- `port P`: a thread waits at no other port than these, so `a port` never comes
abbrev pub port_text : ℕ → List ℕ
port_text port = if nat_lt port PORTS then codes "port " ++ port_name port else codes "a port"

-- what it waits for
abbrev pub pause_text : NodeId → Wait → List ℕ
pause_text id (wait.Room chan count) = codes "room for " ++ (decimal count ++ (codes " at " ++ chan_name id chan))
pause_text id (wait.Tokens chan count) = codes "tokens at " ++ chan_name id chan
pause_text id (wait.PortFull port) = codes "data at " ++ port_text port
pause_text id (wait.PortEmpty port) = codes "room at " ++ port_text port
pause_text id (wait.PortIdle port) = codes "the end of output at " ++ port_text port
pause_text id (wait.Timer timer) = timer_name timer
pause_text id (wait.Lock lock) = lock_name lock
pause_text id (wait.Slaves sync) = sync_name sync
pause_text id wait.Choice = codes "an event"
pause_text id wait.Divider = codes "the divider"

abbrev pub took_text : Bool → Word → List ℕ
took_text false pc = codes "; not executed: takes an event and goes to " ++ hex_word pc
took_text true pc = codes "; not executed: takes an interrupt and goes to " ++ hex_word pc

-- where a trap leads
abbrev pub handler_text : Run → List ℕ
handler_text Halted = codes " and halts at "
handler_text _ = codes " and goes to "

-- by its number and its data, of the thread after it
abbrev pub trapped_text : Thread → List ℕ
trapped_text th = codes "; traps " ++ (decimal th.et ++ (codes " data " ++ (hex_word th.ed ++ (handler_text th.run ++ hex_word th.pc))))

-- where it goes on, if that is not the next instruction
abbrev pub goes_text : Word → Word → List ℕ
goes_text before after = if after == word_sum before 4 then [] else codes "; goes to " ++ hex_word after

-- of a thread that was this before the issue and is that after it
abbrev pub ending_text : NodeId → Thread → Thread → Ending → List ℕ
ending_text id before after (ending.Took interrupt) = took_text interrupt after.pc
ending_text id before after ending.Trapped = trapped_text after
ending_text id before after (ending.Paused wait) = codes "; pauses for " ++ pause_text id wait
ending_text id before after ending.Ended = codes "; ends"
ending_text id before after ending.Done = goes_text before.pc after.pc
