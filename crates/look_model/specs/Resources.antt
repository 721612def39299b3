-- How resources are told: by kind and identifier, with what matters to who waits for them.
use Rattle.std.specs.Prelude.{ℕ, ◌+◌, ◌-◌, ◌*◌, ◌%◌, ◌^◌, if◌then◌else◌, Option, Some, None, List, [], ◌++◌, length, slice_get, codes, decimal}
use Rattle.xs_base.specs.Numbers.{Slot, Word, NodeId, ChanNumber, PortNumber}
use Rattle.xs_base.specs.Ids.{chan_id, res_id}
use Rattle.xs_base.specs.declared.numbers.TheConstants.{TIMER_KIND, SYNCHRONISER_KIND, LOCK_KIND}
use Rattle.xs_model.specs.declared.clock.Clock.{Clock}
use Rattle.xs_model.specs.declared.clock.Clock.TheVariants.{Reference, Block}
use Rattle.xs_model.specs.Time.{time_at, is_after}
use Rattle.chan_ends.specs.declared.state.ChanState.{ChanState}
use Rattle.timers_clocks.specs.declared.state.TimerState.{TimerState}
use Rattle.timers_clocks.specs.declared.state.ClockState.{ClockState}
use Rattle.single_port.specs.declared.state.PortState.{PortState}
use Rattle.single_port.specs.declared.state.Transfer.{Transfer}
use Rattle.single_port.specs.declared.state.Condition.{Condition}
use Rattle.single_port.specs.declared.state.Condition.TheVariants as condition
use Rattle.trace_model.specs.EventLines.{hex_word, port_name}

-- ---- Channel ends

-- `channel end ID`, of the node with this id
abbrev pub chan_name : NodeId → ChanNumber → List ℕ
chan_name id c = codes "channel end " ++ hex_word (chan_id id c)

-- how many tokens wait at a channel end to be sent, and how many to be taken
abbrev pub output_count : Option ChanState → ℕ
output_count None = 0
output_count (Some chan) = length chan.output.items

abbrev pub input_count : Option ChanState → ℕ
input_count None = 0
input_count (Some chan) = length chan.input.items

-- ---- Timers, synchronisers and locks

abbrev pub timer_name : ℕ → List ℕ
timer_name n = codes "timer " ++ hex_word (res_id n TIMER_KIND)

abbrev pub sync_name : ℕ → List ℕ
sync_name n = codes "synchroniser " ++ hex_word (res_id n SYNCHRONISER_KIND)

abbrev pub lock_name : ℕ → List ℕ
lock_name n = codes "lock " ++ hex_word (res_id n LOCK_KIND)

-- How many slots it takes from a slot on until the time is after x: timers show the next time every four slots, and the first one after x is
-- x + 1.
abbrev pub slots_until_after : Slot → Word → ℕ
slots_until_after slot x =
    if is_after x (time_at slot) then 0 else 4 * ((x + 1 + (2 ^ 32 - time_at slot)) % 2 ^ 32) - slot % 4

-- ` after V, in S slots`, or nothing where the timer has no condition
abbrev pub moment_text : Slot → Option TimerState → List ℕ
moment_text slot None = []
moment_text slot (Some timer) =
    if timer.after
    then codes " after " ++ (decimal timer.value ++ (codes ", in " ++ (decimal (slots_until_after slot timer.value) ++ codes " slots")))
    else []

-- ---- Ports

-- ` stopped`, where the clock block does not run
abbrev pub stopped_text : Option ClockState → List ℕ
stopped_text None = []
stopped_text (Some clock) = if clock.running then [] else codes " stopped"

-- `, clock block K`, where the port does not go by the reference clock
abbrev pub clock_text : List ClockState → Clock → List ℕ
clock_text clocks Reference = []
clock_text clocks (Block k) = codes ", clock block " ++ (decimal k ++ stopped_text (slice_get clocks k))

-- In how many edges a port's counter stands at a time. The edge that puts out has counted before, so for an output it is one at least.
abbrev pub edges_to_sample : ℕ → ℕ → ℕ
edges_to_sample counter time = (time + (2 ^ 16 - counter)) % 2 ^ 16

abbrev pub edges_to_output : ℕ → ℕ → ℕ
edges_to_output counter time = (time + (2 ^ 16 - 1 - counter)) % 2 ^ 16 + 1

-- `, time T in E edges`
abbrev pub timed_text : ℕ → ℕ → List ℕ
timed_text time edges = codes ", time " ++ (decimal time ++ (codes " in " ++ (decimal edges ++ codes " edges")))

-- for an input, and for an output
abbrev pub sample_time : ℕ → Option ℕ → List ℕ
sample_time counter None = []
sample_time counter (Some time) = timed_text time (edges_to_sample counter time)

abbrev pub output_time : ℕ → Option ℕ → List ℕ
output_time counter None = []
output_time counter (Some time) = timed_text time (edges_to_output counter time)

-- `, value V` or `, value not V`
abbrev pub condition_text : Condition → Word → List ℕ
condition_text condition.None value = []
condition_text condition.Equal value = codes ", value " ++ hex_word value
condition_text condition.NotEqual value = codes ", value not " ++ hex_word value

-- the time that an output waits for
abbrev pub transfer_time : Option Transfer → Option ℕ
transfer_time None = None
transfer_time (Some transfer) = transfer.time

-- `: counter C`, and the clock
abbrev pub counter_text : List ClockState → PortState → List ℕ
counter_text clocks port = codes ": counter " ++ (decimal port.counter ++ clock_text clocks port.clock)

-- `, data there`, where data waits to be taken
abbrev pub data_text : Option Transfer → List ℕ
data_text None = []
data_text (Some transfer) = codes ", data there"

-- what a port waits for before it takes a sample, and whether it has one; or `, output`, where its direction is that
abbrev pub sample_text : PortState → List ℕ
sample_text port =
    if port.output then codes ", output"
    else sample_time port.counter port.time ++ (condition_text port.condition port.value ++ data_text port.tr)

-- `port P`, with that
abbrev pub input_port_text : List ClockState → PortNumber → Option PortState → List ℕ
input_port_text clocks p None = codes "a port"
input_port_text clocks p (Some port) = codes "port " ++ (port_name p ++ (counter_text clocks port ++ sample_text port))

-- `port P`, with the time that its output waits for
abbrev pub output_port_text : List ClockState → PortNumber → Option PortState → List ℕ
output_port_text clocks p None = codes "a port"
output_port_text clocks p (Some port) = codes "port " ++ (port_name p ++ (counter_text clocks port ++ output_time port.counter (transfer_time port.tr)))
