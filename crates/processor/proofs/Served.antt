-- Threads stay able, or not able, where no port serves them otherwise than before.
use Rattle.std.specs.Prelude.{Bool, true, false, ◌&&◌, ◌||◌, not, nat_lt, if◌then◌else◌, Option, Some, None, IfSome, is_some, is_none, List, [], ◌∷◌, length}
use Rattle.std.proofs.Common.{◌≡◌, ℕ, ◌+◌, refl, ap, ap₂, sym, ◌∙◌}
use Rattle.xs_model.specs.declared.thread.Run.{Run}
use Rattle.xs_model.specs.declared.thread.Run.TheVariants.{Free, Unstarted, AtSync, Going, Paused, Halted}
use Rattle.xs_model.specs.declared.thread.Wait.{Wait}
use Rattle.xs_model.specs.declared.thread.Wait.TheVariants.{Room, Tokens, PortFull, PortEmpty, PortIdle, Timer, Lock, Slaves, Choice, Divider}
use Rattle.xs_model.specs.declared.status.TheConstants.{EEBLE, IEBLE}
use Rattle.xs_model.specs.Status.{has_bits}
use Rattle.xs_model.specs.Record.{CoreRec, PortRec, TransferRec, EnablingRec, thread_of}
use Rattle.xs_model.specs.Enabling.{gives_to}
use Rattle.xs_model.specs.Waits.{holds}
use Rattle.xs_model.specs.Choices.{first_of, first_ready, allowed_choice, choice_in_mode, choice, ready_in, port_is_ready}
use Rattle.xs_model.specs.Picks.{goes_or_holds, is_paused, is_able}
use Rattle.buffered_ports.specs.Asks.{port_at}
use Rattle.buffered_ports.specs.Keeps.{ServesAs}
use Rattle.core_waits.specs.declared.able.Able.{Able}
use Rattle.core_waits.specs.Parts.{AreAble}

none_or_some : (t : Option TransferRec) → is_none t ≡ not (is_some t)
none_or_some None = refl
none_or_some (Some t) = refl

first_served : (gives : EnablingRec → Bool) (one other : ℕ → Bool) → ((n : ℕ) → one n ≡ other n) → (n : ℕ) (list : List EnablingRec) → first_ready gives one n list ≡ first_ready gives other n list
unfolding first_ready
first_served gives one other same n [] = refl
first_served gives one other same n (e ∷ rest) =
    ap₂ (λ ready later. if gives e && ready then Some e else later) (same n) (first_served gives one other same (n + 1) rest)

-- a core with these ports in place of its own
abbrev with_ports : CoreRec → List PortRec → CoreRec
with_ports core ports = record core { ports = ports }

module _ (core : CoreRec) (ports : List PortRec) (same : (p : ℕ) → ServesAs (port_at core.ports p) (port_at ports p)) where
  left_served : (p : ℕ) → (is_some (port_at ports p).transfer || nat_lt 0 (length (port_at ports p).shift)) ≡ (is_some (port_at core.ports p).transfer || nat_lt 0 (length (port_at core.ports p).shift))
  left_served p = ap₂ (λ full shifting. full || shifting) (same p).transfer (same p).shift

  holds_served : (slot : ℕ) (wait : Wait) → holds (with_ports core ports) slot wait ≡ holds core slot wait
  holds_served slot (Room chan count) = refl
  holds_served slot (Tokens chan count) = refl
  holds_served slot (PortFull port) = (same port).transfer
  holds_served slot (PortEmpty port) =
      none_or_some (port_at ports port).transfer ∙ ap not (same port).transfer ∙ sym (none_or_some (port_at core.ports port).transfer)
  holds_served slot (PortIdle port) = ap₂ (λ output left. not (output && left)) (same port).output (left_served port)
  holds_served slot (Timer timer) = refl
  holds_served slot (Lock lock) = refl
  holds_served slot (Slaves sync) = refl
  holds_served slot Choice = refl
  holds_served slot Divider = refl

  goes_served : (slot : ℕ) (run : Run) → goes_or_holds (with_ports core ports) slot run ≡ goes_or_holds core slot run
  goes_served slot Free = refl
  goes_served slot Unstarted = refl
  goes_served slot AtSync = refl
  goes_served slot Going = refl
  goes_served slot (Paused wait) = holds_served slot wait
  goes_served slot Halted = refl

  ready_served : (p : ℕ) → port_is_ready (port_at ports p) ≡ port_is_ready (port_at core.ports p)
  ready_served p = ap₂ (λ output full. not output && full) (same p).output (same p).transfer

  mode_served : (slot k : ℕ) (interrupt : Bool) → choice_in_mode k (ready_in (with_ports core ports) slot) core.enabled interrupt ≡ choice_in_mode k (ready_in core slot) core.enabled interrupt
  mode_served slot k interrupt =
      ap (λ port.
      first_of (first_ready (gives_to k interrupt) (ready_in core slot).chans 0 core.enabled.chans)
      (first_of (first_ready (gives_to k interrupt) (ready_in core slot).timers 0 core.enabled.timers) port))
      (first_served (gives_to k interrupt) (ready_in (with_ports core ports) slot).ports (ready_in core slot).ports ready_served 0 core.enabled.ports)

  choice_served : (slot k : ℕ) → choice (with_ports core ports) slot k ≡ choice core slot k
  choice_served slot k =
      let sr = (thread_of core k).sr in
      ap₂ (λ interrupt event. first_of (allowed_choice (has_bits sr IEBLE) interrupt) (allowed_choice (has_bits sr EEBLE) event)) (mode_served slot k true) (mode_served slot k false)

  able_served : (slot k : ℕ) → is_able (with_ports core ports) k slot ≡ is_able core k slot
  able_served slot k =
      let run = (thread_of core k).run in
      ap₂ (λ goes choice. goes || (is_paused run && is_some choice)) (goes_served slot run) (choice_served slot k)

  pub known_served : (able : Option Able) → IfSome able (AreAble core) → IfSome able (AreAble (with_ports core ports))
  known_served None known = tt
  known_served (Some able) known = record { at = λ slot k is below. known.at slot k is below ∙ sym (able_served slot k); now = known.now }
