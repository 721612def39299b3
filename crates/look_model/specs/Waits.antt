-- What a thread does, and what it waits for, in words.
use Rattle.std.specs.Prelude.{ℕ, ◌+◌, ◌-◌, Bool, true, false, ◌&&◌, not, ◌==◌, if◌then◌else◌, Option, Some, None, List, [], ◌∷◌, ◌++◌, slice_get, codes, decimal}
use Rattle.std.specs.List.{flat_map}
use Rattle.xs_base.specs.Numbers.{Slot, NodeId, ThreadNumber}
use Rattle.xs_base.specs.declared.numbers.TheConstants.{BUFFER_TOKENS}
use Rattle.xs_model.specs.declared.thread.Run.{Run}
use Rattle.xs_model.specs.declared.thread.Run.TheVariants.{Free, Unstarted, AtSync, Going, Paused, Halted}
use Rattle.xs_model.specs.declared.thread.TheConstants.{DIVISION_SLOTS}
use Rattle.xs_model.specs.declared.thread.Thread.{Thread}
use Rattle.xs_model.specs.declared.thread.Wait.{Wait}
use Rattle.xs_model.specs.declared.thread.Wait.TheVariants.{Room, Tokens, PortFull, PortEmpty, PortIdle, Timer, Lock, Slaves, Choice, Divider}
use Rattle.xs_model.specs.declared.status.Status.{Status}
use Rattle.xs_model.specs.declared.status.TheConstants.{EEBLE, IEBLE}
use Rattle.xs_model.specs.Masks.{in_mask}
use Rattle.xs_model.specs.Status.{has_bits}
use Rattle.xs_model.specs.Waits.{is_in}
use Rattle.sync_locks.specs.declared.state.LockState.{LockState}
use Rattle.sync_locks.specs.declared.state.SyncState.{SyncState}
use Rattle.event_unit.specs.declared.state.EnableState.{EnableState}
use Rattle.core_step.specs.declared.node_state.NodeState.{NodeState}
use Rattle.sys_plan.specs.declared.NodePlan.{NodePlan}
use Rattle.trace_model.specs.EventLines.{hex_word}
use Rattle.trace_model.specs.Trace.{by_position}
use Rattle.look_model.specs.Places.{place_text}
use Rattle.look_model.specs.Resources.{chan_name, output_count, input_count, timer_name, sync_name, lock_name, moment_text, input_port_text, output_port_text}

-- ---- Who is waited for

-- whether a thread with a number is a slave, by the mask of all slaves, and not in yet
abbrev pub is_missing : ℕ → ThreadNumber → Thread → Bool
is_missing slaves k th = in_mask slaves k && not (is_in th.run)

-- those of these threads, counted from k
abbrev pub missing_from : ℕ → ThreadNumber → List Thread → List ThreadNumber
missing_from slaves k [] = []
missing_from slaves k (th ∷ threads) = (if is_missing slaves k th then k ∷ [] else []) ++ missing_from slaves (k + 1) threads

abbrev pub slaves_of : Option SyncState → ℕ
slaves_of None = 0
slaves_of (Some sync) = sync.slaves

-- the slaves of a synchroniser that are not in yet
abbrev pub missing : NodeState → ℕ → List ThreadNumber
missing state n = missing_from (slaves_of (slice_get state.syncs n)) 0 state.threads

-- the number of the first synchroniser, counted from n, of which a thread is a slave, and its state
abbrev pub sync_from : ThreadNumber → ℕ → List SyncState → Option (ℕ × SyncState)
sync_from k n [] = None
sync_from k n (sync ∷ syncs) = if in_mask sync.slaves k then Some (n, sync) else sync_from k (n + 1) syncs

abbrev pub sync_of : NodeState → ThreadNumber → Option (ℕ × SyncState)
sync_of state k = sync_from k 0 state.syncs

abbrev pub owner_in : Option LockState → Option ThreadNumber
owner_in None = None
owner_in (Some lock) = lock.owner

-- the thread that owns a lock
abbrev pub owner : NodeState → ℕ → Option ThreadNumber
owner state n = owner_in (slice_get state.locks n)

-- ---- In words

-- `tK`, and that of each of some threads behind a blank
abbrev pub thread_name : ThreadNumber → List ℕ
thread_name k = codes "t" ++ decimal k

abbrev pub thread_names : List ThreadNumber → List ℕ
thread_names threads = flat_map (λ k. codes " " ++ thread_name k) threads

-- who owns a lock
abbrev pub owner_text : Option ThreadNumber → List ℕ
owner_text None = codes ", which is free"
owner_text (Some k) = codes ", which " ++ (thread_name k ++ codes " owns")

-- the slaves that a master waits for
abbrev pub missing_text : List ThreadNumber → List ℕ
missing_text [] = codes ", whose slaves are all in"
missing_text (k ∷ threads) = codes ", whose slaves are not in:" ++ thread_names (k ∷ threads)

-- the master that a slave waits for
abbrev pub master_text : Option (ℕ × SyncState) → List ℕ
master_text None = codes " another thread"
master_text (Some sync) = codes " " ++ (thread_name sync.1.master ++ (codes ", the master of " ++ sync_name sync.0))

-- in how many slots the divider is free, by the slot of the last division
abbrev pub divider_slots : Slot → Option Slot → ℕ
divider_slots slot None = 0
divider_slots slot (Some division) = division + DIVISION_SLOTS - slot

-- `HELD of WANTED`, and how much of an output buffer is taken
abbrev pub of_text : ℕ → ℕ → List ℕ
of_text held wanted = decimal held ++ (codes " of " ++ decimal wanted)

abbrev pub taken_text : ℕ → List ℕ
taken_text held = codes ": taken " ++ of_text held BUFFER_TOKENS

-- what a paused thread waits for
abbrev pub wait_text : NodeId → Slot → NodeState → Wait → List ℕ
wait_text id slot state (Room chan count) =
    codes "room for " ++ (decimal count ++ (codes " at " ++ (chan_name id chan ++ taken_text (output_count (slice_get state.chans chan)))))
wait_text id slot state (Tokens chan count) =
    codes "tokens at " ++ (chan_name id chan ++ (codes ": " ++ of_text (input_count (slice_get state.chans chan)) count))
wait_text id slot state (PortFull port) = codes "data at " ++ input_port_text state.clocks port (slice_get state.ports port)
wait_text id slot state (PortEmpty port) = codes "room at " ++ output_port_text state.clocks port (slice_get state.ports port)
wait_text id slot state (PortIdle port) = codes "the end of output at " ++ output_port_text state.clocks port (slice_get state.ports port)
wait_text id slot state (Timer timer) = timer_name timer ++ moment_text slot (slice_get state.timers timer)
wait_text id slot state (Lock lock) = lock_name lock ++ owner_text (owner state lock)
wait_text id slot state (Slaves sync) = sync_name sync ++ missing_text (missing state sync)
wait_text id slot state Choice = codes "an event"
wait_text id slot state Divider = codes "the divider, free in " ++ (decimal (divider_slots slot state.division) ++ codes " slots")

-- ---- What is enabled for a thread

abbrev pub is_by : ThreadNumber → Option ThreadNumber → Bool
is_by k None = false
is_by k (Some other) = other == k

-- what a resource gives where it is ready
abbrev pub gives_text : EnableState → List ℕ
gives_text enable = if enable.interrupt then codes "  interrupt: " else codes "  event: "

-- whether a thread with this status takes it
abbrev pub is_let_in : Status → EnableState → Bool
is_let_in sr enable = if enable.interrupt then has_bits sr IEBLE else has_bits sr EEBLE

-- the end of its line
abbrev pub let_in_text : Bool → List ℕ
let_in_text is_in = if is_in then codes "\n" else codes ", not let in\n"

-- the line of a resource, where the thread with this status has enabled it, which is told so
abbrev pub enabled_line : ThreadNumber → Status → EnableState → List ℕ → List ℕ
enabled_line k sr enable told =
    if is_by k enable.by then gives_text enable ++ (told ++ let_in_text (is_let_in sr enable)) else []

-- the lines of those resources of a kind
abbrev pub enabled_lines : (ℕ → List ℕ) → ThreadNumber → Status → List EnableState → List ℕ
enabled_lines tells k sr enables = by_position (λ n enable. enabled_line k sr enable (tells n)) 0 enables

-- a channel end, a timer and a port as what may give an event
abbrev pub chan_tells : NodeId → NodeState → ℕ → List ℕ
chan_tells id state c = chan_name id c ++ (codes ": " ++ (decimal (input_count (slice_get state.chans c)) ++ codes " tokens"))

abbrev pub timer_tells : Slot → NodeState → ℕ → List ℕ
timer_tells slot state n = timer_name n ++ moment_text slot (slice_get state.timers n)

abbrev pub port_tells : NodeState → ℕ → List ℕ
port_tells state p = input_port_text state.clocks p (slice_get state.ports p)

-- all that a thread has enabled
abbrev pub all_enabled : NodeId → Slot → NodeState → ThreadNumber → Status → List ℕ
all_enabled id slot state k sr =
    enabled_lines (chan_tells id state) k sr state.chan_enables
    ++ (enabled_lines (timer_tells slot state) k sr state.timer_enables ++ enabled_lines (port_tells state) k sr state.port_enables)

-- ---- The lines of a thread

abbrev pub run_text : Run → List ℕ
run_text Free = codes " free"
run_text Unstarted = codes " unstarted"
run_text AtSync = codes " at sync"
run_text Going = codes " going"
run_text (Paused wait) = codes " paused"
run_text Halted = codes " halted"

-- what a paused thread waits for, and the events and interrupts that may end its pause
abbrev pub pause_lines : NodeId → Slot → NodeState → ThreadNumber → Status → Wait → List ℕ
pause_lines id slot state k sr wait =
    codes "  waits for " ++ (wait_text id slot state wait ++ (codes "\n" ++ all_enabled id slot state k sr))

-- the trap by which a thread halted: where it came
abbrev pub trap_line : NodePlan → List ℕ → Thread → List ℕ
trap_line node lines th =
    codes "  by trap " ++ (decimal th.et ++ (codes " data " ++ (hex_word th.ed ++ (place_text lines node.image th.spc ++ codes "\n"))))

-- the lines below that of a thread
abbrev pub run_lines : NodePlan → List ℕ → Slot → NodeState → ThreadNumber → Thread → Run → List ℕ
run_lines node lines slot state k th Unstarted = codes "  waits for the start by" ++ (master_text (sync_of state k) ++ codes "\n")
run_lines node lines slot state k th AtSync = codes "  waits for" ++ (master_text (sync_of state k) ++ codes "\n")
run_lines node lines slot state k th (Paused wait) = pause_lines node.id slot state k th.sr wait
run_lines node lines slot state k th Halted = trap_line node lines th
run_lines node lines slot state k th _ = []

abbrev pub is_free : Run → Bool
is_free Free = true
is_free _ = false

-- `nN.tT STATE at PC line L LABEL+D: INSTRUCTION`, and what it waits for
abbrev pub thread_lines : NodePlan → List ℕ → Slot → NodeState → ThreadNumber → Thread → List ℕ
thread_lines node lines slot state k th =
    if is_free th.run then []
    else codes "n" ++ (decimal node.number ++ (codes "." ++ (thread_name k ++ (run_text th.run ++ (place_text lines node.image th.pc
    ++ (codes "\n" ++ run_lines node lines slot state k th th.run))))))

-- of all threads
abbrev pub threads_lines : NodePlan → List ℕ → Slot → NodeState → List ℕ
threads_lines node lines slot state = by_position (thread_lines node lines slot state) 0 state.threads
