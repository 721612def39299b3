-- How a port answers is how a row ends there.
use Rattle.std.proofs.Common.{◌≡◌, ℕ, List, [], Option, Some, None, false, refl, ap, sym, subst}
use Rattle.std.specs.Prelude.{Bool, if◌then◌else◌}
use Rattle.std.proofs.lemmas.List.{set-get_or}
use Rattle.xs_base.specs.Numbers.{Word}
use Rattle.xs_model.specs.declared.pins.PinChange.{PinChange}
use Rattle.xs_model.specs.declared.pins.PinChange.TheVariants.{Drive, Float}
use Rattle.xs_model.specs.declared.thread.Thread.{Thread}
use Rattle.xs_model.specs.declared.thread.Wait.{Wait}
use Rattle.xs_model.specs.declared.traps.TheConstants.{ILLEGAL_RESOURCE, RESOURCE_DEPENDENCY}
use Rattle.xs_model.specs.Record.{CoreRec, PortRec, off_port, port_of, with_port}
use Rattle.xs_model.specs.Ports.{pin_happens}
use Rattle.xs_model.specs.PortActions.{Acted, Did, Got, Waits, Refused}
use Rattle.step_model.specs.Effect.{Done, Pause, Trap}
use Rattle.step_model.specs.PortRows.{ends_at_port, goes_on_taking}
use Rattle.buffered_ports.specs.answers.Answer.{Answer}
use Rattle.buffered_ports.specs.answers.Reply.TheVariants as reply
use Rattle.buffered_ports.specs.Asks.{answer_of, port_after, wait_of}
use Rattle.resource_rows.specs.Ends.{ended_done, ended_pause}
use Rattle.core_units.specs.Units.{EndsWith}
use Rattle.resource_rows.specs.Ports.{would_wait}

-- what happens by a row that is done, or that waits, is what its end tells
done_with : (old after : CoreRec) (p : ℕ) (change : Option PinChange) → EndsWith (ended_done (pin_happens p change)) old after (Done after (pin_happens p change))
done_with old after p None = refl
done_with old after p (Some (Drive value)) = (refl, refl)
done_with old after p (Some Float) = (refl, refl)

pause_with : (old after : CoreRec) (wait : Wait) (p : ℕ) (change : Option PinChange) → EndsWith (ended_pause wait (pin_happens p change)) old after (Pause after wait (pin_happens p change))
pause_with old after wait p None = (refl, refl)
pause_with old after wait p (Some (Drive value)) = (refl, refl, refl)
pause_with old after wait p (Some Float) = (refl, refl, refl)

module _ (core : CoreRec) (k name p : ℕ) (takes : Word → Thread → Thread) where
  -- the core with what is left of the port
  abbrev pub left : Acted → CoreRec
  left acted = with_port core p (port_after (port_of core p) acted)

  pub done_end : (acted : Acted) (answer : Answer) → answer ≡ answer_of acted → answer.reply ≡ reply.Done
      → EndsWith (ended_done (pin_happens p answer.pin)) core (goes_on_taking (left acted) k takes 0) (ends_at_port core k name p takes acted)
  done_end (Did port change) answer is done =
      subst (λ (a : Answer). EndsWith (ended_done (pin_happens p a.pin)) core (goes_on_taking (with_port core p port) k takes 0) (Done (goes_on_taking (with_port core p port) k takes 0) (pin_happens p change))) (sym is)
      (done_with core (goes_on_taking (with_port core p port) k takes 0) p change)
  done_end (Got port word) answer is done = cc
  done_end (Waits port wait change) answer is done = cc
  done_end Refused answer is done = cc

  pub got_end : (acted : Acted) (answer : Answer) (word : Word) → answer ≡ answer_of acted → answer.reply ≡ reply.Got word
      → EndsWith (ended_done []) core (goes_on_taking (left acted) k takes word) (ends_at_port core k name p takes acted)
  got_end (Did port change) answer word is got = cc
  got_end (Got port given) answer word is got =
      let same : word ≡ given = cc in
      ap (λ w. goes_on_taking (with_port core p port) k takes w) same
  got_end (Waits port wait change) answer word is got = cc
  got_end Refused answer word is got = cc

  pub pause_end : (acted : Acted) (answer : Answer) (wait : Wait) → answer ≡ answer_of acted → answer.reply ≡ reply.Pause wait → would_wait core (wait_of acted) ≡ false
      → EndsWith (ended_pause wait (pin_happens p answer.pin)) core (left acted) (ends_at_port core k name p takes acted)
  pause_end (Did port change) answer wait is pauses free = cc
  pause_end (Got port word) answer wait is pauses free = cc
  pause_end (Waits port waited change) answer wait is pauses free =
      let after = with_port core p port in
      let same : wait ≡ waited = cc in
      subst (λ (waits : Bool). EndsWith (ended_pause wait (pin_happens p answer.pin)) core after (if waits then Trap RESOURCE_DEPENDENCY name else Pause after waited (pin_happens p change))) (sym free)
      (subst (λ (w : Wait). EndsWith (ended_pause w (pin_happens p answer.pin)) core after (Pause after waited (pin_happens p change))) (sym same)
      (subst (λ (a : Answer). EndsWith (ended_pause waited (pin_happens p a.pin)) core after (Pause after waited (pin_happens p change))) (sym is)
      (pause_with core after waited p change)))
  pause_end Refused answer wait is pauses free = cc

  pub bad_end : (acted : Acted) (answer : Answer) → answer ≡ answer_of acted → answer.reply ≡ reply.Bad
      → (left acted ≡ core) × (ends_at_port core k name p takes acted ≡ Trap ILLEGAL_RESOURCE name)
  bad_end (Did port change) answer is bad = cc
  bad_end (Got port word) answer is bad = cc
  bad_end (Waits port wait change) answer is bad = cc
  bad_end Refused answer is bad = (ap (λ (ports : List PortRec). record core { ports = ports }) (set-get_or core.ports p off_port), refl)
