-- How many bytes the parts of a node have.
use Rattle.std.proofs.Common.{◌≡◌, ℕ, ◌+◌, ◌*◌, Bool, true, is_some, List, ◌∷◌, ◌++◌, length, Option, refl, arith}
use Rattle.std.proofs.lemmas.List.{length-append}
use Rattle.arrayvec.specs.ArrayVec.{ArrayVec}
use Rattle.xs_base.specs.Numbers.{Slot}
use Rattle.xs_base.specs.declared.token.Token.{Token}
use Rattle.xs_model.specs.declared.thread.Thread.{Thread}
use Rattle.chan_ends.specs.declared.state.ChanState.{ChanState}
use Rattle.timers_clocks.specs.declared.state.TimerState.{TimerState}
use Rattle.timers_clocks.specs.declared.state.ClockState.{ClockState}
use Rattle.sync_locks.specs.declared.state.SyncState.{SyncState}
use Rattle.sync_locks.specs.declared.state.LockState.{LockState}
use Rattle.single_port.specs.declared.state.PortState.{PortState}
use Rattle.event_unit.specs.declared.state.EnableState.{EnableState}
use Rattle.switch_routes.specs.declared.state.InputState.{InputState}
use Rattle.link_ends.specs.declared.state.EndState.{EndState}
use Rattle.byte_forms.specs.Forms.{word, byte_of_flag, flag_and_value, repeat, write_chain}
use Rattle.state_forms.specs.Tokens.{token}
use Rattle.state_forms.specs.Buffers.{buffer}
use Rattle.state_forms.specs.Threads.{status_word, run, pointers_of, traps_of, thread_state, thread}
use Rattle.state_forms.specs.Chans.{chan}
use Rattle.state_forms.specs.Timers.{timer, clock}
use Rattle.state_forms.specs.Syncs.{sync}
use Rattle.state_forms.specs.Locks.{lock}
use Rattle.state_forms.specs.Enables.{enabler, enable}
use Rattle.port_forms.specs.Ports.{clock as port_clock}
use Rattle.port_forms.specs.Ports.{basics, widths, condition, trigger, shift, transfer, strobe, tail, port}
use Rattle.switch_forms.specs.Inputs.{tag_at, input}
use Rattle.switch_forms.specs.Ends.{link_end}
use Rattle.snap_sizes.specs.Sizes.{tokens_at_chan, tokens_at_end}
use Rattle.snap_sizes.proofs.Chains.{chain_alike}

-- ---- Buffers

token_size : (t : Token) → length (token.write t) ≡ 2
unfolding token
token_size t = refl

pub buffer_size : (may_have : Bool) (b : ArrayVec Token) → (buffer may_have).Holds b → length ((buffer may_have).write b) ≡ 1 + 2 * length b.items
unfolding buffer
buffer_size may_have b h =
    let tokens : length ((repeat (length b.items) token).write b.items) ≡ 2 * length b.items
    = chain_alike (λ _. token) (length b.items) 2 (λ _ t _. token_size t) b.items h.1
    in
    omega (arith, tokens)

pub chan_size : (c : ChanState) → chan.Holds c → length (chan.write c) ≡ 9 + 2 * tokens_at_chan c
unfolding chan
chan_size c h =
    let both = length-append ((buffer (is_some c.dest)).write c.output) ((buffer true).write c.input) in
    omega (arith, both, buffer_size (is_some c.dest) c.output h.1.1.1.0, buffer_size true c.input h.1.1.1.1)

pub end_size : (there : Bool) (slot : Slot) (e : EndState) → (link_end there slot).Holds e → length ((link_end there slot).write e) ≡ 8 + 2 * tokens_at_end e
unfolding link_end
end_size there slot e h =
    let sent = flag_and_value e.last in
    omega (arith, length-append ((buffer there).write e.buffer) (e.window ∷ (byte_of_flag sent.0 ∷ word.write sent.1)), buffer_size there e.buffer h.1.0)

-- ---- Threads

state_size : (th : Thread) → thread_state.Holds th → length (thread_state.write th) ≡ 104
unfolding thread_state status_word run write_chain
state_size th h =
    let registers : length ((repeat 12 word).write th.r) ≡ 48 = chain_alike (λ _. word) 12 4 (λ _ n _. refl) th.r h.0 in
    let status = word.write th.sr.bits ++ (word.write th.spc ++ word.write th.ssr.bits) in
    let others = (repeat 5 word).write (pointers_of th) ++ (status ++ ((repeat 5 word).write (traps_of th) ++ run.write th.run)) in
    omega (arith, registers, length-append ((repeat 12 word).write th.r) others)

pub thread_size : (slot : Slot) (th : Thread × Option ℕ) → (thread slot).Holds th → length ((thread slot).write th) ≡ 109
unfolding thread
thread_size slot th h =
    let last = flag_and_value th.1 in
    omega (arith, state_size th.0 h.0, length-append (thread_state.write th.0) (byte_of_flag last.0 ∷ word.write last.1))

-- ---- Fields of fixed places

pub timer_size : (t : TimerState) → length (timer.write t) ≡ 6
unfolding timer
timer_size t = refl

pub clock_size : (c : ClockState) → length (clock.write c) ≡ 3
unfolding clock
clock_size c = refl

pub sync_size : (taken : List Bool) (before : List SyncState) (s : SyncState) → length ((sync taken before).write s) ≡ 3
unfolding sync
sync_size taken before s = refl

pub lock_size : (l : LockState) → length (lock.write l) ≡ 3
unfolding lock
lock_size l = refl

pub enable_size : (e : EnableState) → length (enable.write e) ≡ 10
unfolding enable enabler
enable_size e = refl

pub port_size : (p : ℕ) (s : PortState) → length ((port p).write s) ≡ 41
unfolding port basics widths trigger shift transfer tail condition strobe port_clock
port_size p s = refl

pub input_size : (used there : List Bool) (before : List InputState) (s : InputState) → length ((input used there before).write s) ≡ 10
unfolding input tag_at
input_size used there before s = refl
