-- Where a row at a port waits.
use Rattle.std.proofs.Common.{ℕ, ◌<◌, ◌==◌, ◌&&◌, ◌||◌, not, is_some, Bool, true, false, if◌then◌else◌, Option, Some, None}
use Rattle.xs_base.specs.Numbers.{Word, PortNumber}
use Rattle.xs_base.specs.Ids.{port_width}
use Rattle.xs_base.specs.declared.numbers.TheConstants.{PORTS}
use Rattle.xs_model.specs.declared.modes.TheConstants.{OFF, ON, NO_CONDITION, EQUAL, NOT_EQUAL, CLEAR, NO_BUFFERS, BUFFERS}
use Rattle.xs_model.specs.Record.{PortRec, TransferRec}
use Rattle.xs_model.specs.PortActions.{Acted, Did, Got, Waits, Refused, set_mode, in_mode, is_transfer_width, has_left, is_idle, take_transfer, turn_in, take_in, is_part, end_transfer, turned_out, fill, put_bits}
use Rattle.core_step.specs.ThreadStates.{IsWaitState}
use Rattle.state_laws.proofs.Changes.{PortRow, mode, clock, strobe, transfer_width, value, time, no_time, told_value, told_stamp, peeked, taken, part_taken, ended, put, part_put, synced, refused}

abbrev pub WaitsThere : Acted → Type 0
WaitsThere (Did port change) = Unit {0}
WaitsThere (Got port word) = Unit {0}
WaitsThere (Waits port wait change) = IsWaitState wait
WaitsThere Refused = Unit {0}

either : (holds : Bool) (x y : Acted) → WaitsThere x → WaitsThere y → WaitsThere (if holds then x else y)
either true x y one other = one
either false x y one other = other

mode_waits : (width : ℕ) (x : Word) (port : PortRec) → WaitsThere (in_mode width x port)
mode_waits width x port =
    let set : WaitsThere (set_mode width x port) =
    either (x == NO_CONDITION) _ _ tt (either (x == EQUAL) _ _ tt (either (x == NOT_EQUAL) _ _ tt (either (x == CLEAR) _ _ tt (either (x == NO_BUFFERS) _ _ tt (either (x == BUFFERS) _ Refused tt tt))))) in
    either (x == ON) _ _ tt (either (x == OFF) _ _ (either port.on _ Refused tt tt) (either port.on _ Refused set tt))

module _ (p : PortNumber) (there : p < PORTS) where
  transfer_waits : (wanted : Option ℕ) (port : PortRec) (transfer : Option TransferRec) → WaitsThere (take_transfer p wanted port transfer)
  transfer_waits wanted port None = there
  transfer_waits wanted port (Some t) = tt

  in_waits : (wanted : Option ℕ) (port : PortRec) → WaitsThere (take_in p wanted port)
  in_waits wanted port =
      let turns : WaitsThere (turn_in p wanted port) = either (not (has_left port)) _ _ there there in
      either port.on _ Refused (either port.output _ _ turns (transfer_waits wanted port port.transfer)) tt

  bits_wait : (bits : ℕ) (word : Word) (port : PortRec) → WaitsThere (put_bits p bits word port)
  bits_wait bits word port =
      let at = if port.output then port else turned_out port in
      let fills : WaitsThere (fill p bits word at) = either (is_some at.transfer) _ _ there tt in
      either port.on _ Refused fills tt

  end_waits : (port : PortRec) (transfer : Option TransferRec) → WaitsThere (end_transfer port transfer)
  end_waits port None = tt
  end_waits port (Some t) = tt

  pub row_waits : (S : Type 0) (port : PortRec) (acted : Acted) → PortRow S p port acted → WaitsThere acted
  row_waits S port _ (mode x) = mode_waits (port_width p) x port
  row_waits S port _ (clock its is) = either port.on _ Refused tt tt
  row_waits S port _ (strobe its is) = either port.on _ Refused tt tt
  row_waits S port _ (transfer_width x) =
      either port.on _ Refused (either (port.buffered && is_transfer_width (port_width p) x) _ Refused tt tt) tt
  row_waits S port _ (value x) = either port.on _ Refused tt tt
  row_waits S port _ (time x) = either port.on _ Refused tt tt
  row_waits S port _ no_time = either port.on _ Refused tt tt
  row_waits S port _ told_value = either port.on _ Refused tt tt
  row_waits S port _ told_stamp = either port.on _ Refused tt tt
  row_waits S port _ (peeked outside) = either port.on _ Refused tt tt
  row_waits S port _ taken = in_waits None port
  row_waits S port _ (part_taken bits some) = either (is_part (port_width p) bits port) _ Refused (in_waits (Some bits) port) tt
  row_waits S port _ ended =
      either port.on _ Refused (either (port.output || not port.buffered) Refused _ tt (end_waits port port.transfer)) tt
  row_waits S port _ (put word) = bits_wait port.transfer_width word port
  row_waits S port _ (part_put bits word some) = either (is_part (port_width p) bits port) _ Refused (bits_wait bits word port) tt
  row_waits S port _ synced = either port.on _ Refused (either (is_idle port) _ _ tt there) tt
  row_waits S port _ refused = tt
