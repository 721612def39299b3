-- The edges of a port's clock leave what is always true of it.
use Rattle.std.proofs.Common.{ℕ, ◌≡◌, ◌+◌, ◌==◌, ◌^◌, ◌<◌, ◌≤◌, Bool, true, nat_lt, is_some, Option, Some, None, List, [], ◌∷◌, length, refl, arith}
use Rattle.std.specs.Prelude.{IfSome}
use Rattle.std.proofs.Math.Nat.{mod-lt}
use Rattle.std.proofs.lemmas.Bool.{cond_both}
use Rattle.std.proofs.lemmas.Nat.{pow_pos}
use Rattle.xs_base.specs.Numbers.{Slot, Word, PortNumber}
use Rattle.xs_base.specs.Ids.{port_width}
use Rattle.xs_model.specs.declared.clock.Edge.{Edge}
use Rattle.xs_model.specs.declared.clock.Edge.TheVariants as edge
use Rattle.xs_model.specs.Record.{PortRec, TransferRec, ClockRec, off_port}
use Rattle.xs_model.specs.Bits.{bits_of, value_of}
use Rattle.xs_model.specs.Time.{edge_at}
use Rattle.xs_model.specs.Ports.{level_of, is_high, Edged, came_in, counter_after, beat_out, is_due, next_out, outputs, falls, is_met, is_condition, emptied, takes_level, takes_if_met, takes_in_time, takes_by_time, samples, is_complete, keeps_or_takes, completes, shifts_in, begins, samples_buffered, sampled, lets_sample, rises, at_edge, port_edge, edges_from}
use Rattle.xs_model.specs.PortActions.{on_port}
use Rattle.xs_model.specs.Outside.{LevelsFitFrom}
use Rattle.port_laws.specs.Facts.{AreBeats, IsTransfer, IsOn, HasFacts, is_off, is_on}
use Rattle.port_laws.specs.Ports.{IsWidth, AllHaveFacts}
use Rattle.port_laws.proofs.Changes.{with_registers, with_begun, with_beat, with_counter}
use Rattle.port_laws.proofs.Bits.{multiple_1, value_fits, no_shift, shift_out, beat_fits, shift_of, shift_in, shift_in_some}

-- a beat is a transfer of no fewer bits
pub one_beat : (w largest : ℕ) → w ≤ largest → AreBeats w largest w
one_beat w largest fits = record { whole = multiple_1 w; least = omega arith; most = fits }

-- a port that was just turned on
pub on_port_on : (w : ℕ) → IsWidth w → IsOn w (on_port w)
on_port_on w is = record {
  on = refl;
  transfer_width = one_beat w 32 is.1;
  wanted = one_beat w w (omega arith);
  shift = no_shift w w;
  transfer = tt;
  value = pow_pos w;
  driven = tt;
  input = λ e. refl;
  counter = omega arith;
  time = tt;
  sample_stamp = omega arith;
  stamp = omega arith;
}

pub first_facts : (w : ℕ) → IsWidth w → HasFacts w off_port × HasFacts w (on_port w)
first_facts w is = (is_off, is_on (on_port w) (on_port_on w is))

-- what is in the shift register is a transfer, where there is a beat
pub shift_transfer : (w : ℕ) (port : PortRec) → IsOn w port → w ≤ length port.shift → IsTransfer w port.transfer_width (came_in (value_of port.shift) (length port.shift))
shift_transfer w port is some = record {
  bits = record { whole = is.shift.whole; least = some; most = is.shift.most };
  value = value_fits port.shift is.shift.bits;
  time = tt;
}

-- ---- The rising edge

module _ (w : ℕ) (level : Word) (fits : level < 2 ^ w) where
  takes_on : (port : PortRec) → IsOn w port → IsOn w (takes_level w level port)
  takes_on port is =
      let taken : IsTransfer w port.transfer_width (came_in level w) =
      record { bits = one_beat w port.transfer_width is.transfer_width.least; value = fits; time = tt } in
      with_registers w port _ _ _ (Some (came_in level w)) _ _ is is.shift taken is.time is.counter

  emptied_on : (port : PortRec) → IsOn w port → IsOn w (emptied port)
  emptied_on port is = with_registers w port _ _ _ None _ _ is is.shift tt is.time is.sample_stamp

  if_met_on : (port : PortRec) → IsOn w port → IsOn w (takes_if_met w level port)
  if_met_on port is =
      cond_both (is_met port.condition port.value level) _ _ (IsOn w) (λ yes. takes_on port is) (λ no. emptied_on port is)

  in_time_on : (port : PortRec) → IsOn w port → IsOn w (takes_in_time w level port)
  in_time_on port is =
      let over : IsOn w (record port { time = None }) =
      with_registers w port _ _ _ port.transfer None _ is is.shift is.transfer tt is.sample_stamp in
      let after = takes_level w level port in
      let taken = takes_on port is in
      let held : IsOn w (record after { time = None; held = true }) =
      with_registers w after _ true _ after.transfer None _ taken taken.shift taken.transfer tt taken.sample_stamp in
      cond_both (is_condition port.condition) _ _ (IsOn w) (λ yes. if_met_on (record port { time = None }) over) (λ no. held)

  by_time_on : (port : PortRec) (time : Option ℕ) → IsOn w port → IsOn w (takes_by_time w level port time)
  by_time_on port None is = if_met_on port is
  by_time_on port (Some time) is =
      cond_both (port.counter == time) _ _ (IsOn w) (λ yes. in_time_on port is) (λ no. emptied_on port is)

  samples_on : (port : PortRec) → IsOn w port → IsOn w (samples w level port)
  samples_on port is = cond_both port.held _ _ (IsOn w) (λ yes. is) (λ no. by_time_on port port.time is)

  completes_on : (port : PortRec) → w ≤ length port.shift → IsOn w port → IsOn w (completes port)
  completes_on port some is =
      let kept : IsOn w (keeps_or_takes port) =
      cond_both (is_some port.transfer) _ _ (IsOn w) (λ yes. is) (λ no. with_registers w port _ _ _ (Some (came_in (value_of port.shift) (length port.shift))) _ _ is is.shift (shift_transfer w port is some) is.time is.counter) in
      let after = keeps_or_takes port in
      let done : IsOn w (record after { shift = []; time = None }) =
      with_registers w after _ _ [] after.transfer None _ kept (no_shift w after.transfer_width) kept.transfer tt kept.sample_stamp in
      cond_both (is_complete port port.time) _ _ (IsOn w) (λ yes. done) (λ no. is)

  shifts_on : (port : PortRec) → IsOn w port → IsOn w (completes (shifts_in w level port))
  shifts_on port is =
      let tw = port.transfer_width in
      let shifted = shift_in w tw level port.shift is.transfer_width.whole is.shift in
      completes_on (shifts_in w level port) (shift_in_some w tw level port.shift is.transfer_width.least) (with_registers w port _ _ _ port.transfer port.time _ is shifted is.transfer is.time is.sample_stamp)

  buffered_on : (port : PortRec) → IsOn w port → IsOn w (samples_buffered w level port)
  buffered_on port is =
      let begun : IsOn w (begins port) =
      cond_both (is_condition port.condition) _ _ (IsOn w) (λ yes. with_registers w port _ _ [] port.transfer port.time _ is (no_shift w port.transfer_width) is.transfer is.time is.sample_stamp) (λ no. is) in
      cond_both (is_met port.condition port.value level) _ _ (IsOn w) (λ yes. shifts_on (begins port) begun) (λ no. is)

  rises_on : (high : Bool) (port : PortRec) → IsOn w port → IsOn w (rises w level high port)
  rises_on high port is =
      let taken : IsOn w (sampled w level port) =
      cond_both port.buffered _ _ (IsOn w) (λ yes. buffered_on port is) (λ no. samples_on port is) in
      cond_both port.output _ _ (IsOn w) (λ yes. is) (λ no. cond_both (lets_sample port.strobe high) _ _ (IsOn w) (λ yes. taken) (λ no. is))

-- ---- The falling edge

module _ (w : ℕ) where
  abbrev LeavesOn : Edged → Type 0
  LeavesOn e = IsOn w e.port

  beat_on : (port : PortRec) → port.output ≡ true → IsOn w port → LeavesOn (beat_out w port)
  beat_on port out is =
      with_beat w port _ _ out is (shift_out w port.transfer_width port.shift is.shift) (beat_fits w port.shift is.shift.bits)

  next_on : (port : PortRec) (next : Option TransferRec) → port.output ≡ true → IfSome next (IsTransfer w port.transfer_width) → IsOn w port → LeavesOn (next_out w port next)
  next_on port None out fits is = is
  next_on port (Some t) out fits is =
      let begun = record port { shift = bits_of t.bits t.value; transfer = None; stamp = port.counter } in
      let on : IsOn w begun = with_begun w port _ is (shift_of w port.transfer_width t.bits t.value fits.bits) in
      cond_both (is_due port.counter t.time) _ _ LeavesOn (λ yes. beat_on begun out on) (λ no. is)

  outputs_on : (port : PortRec) → port.output ≡ true → IsOn w port → LeavesOn (outputs w port)
  outputs_on port out is =
      cond_both (nat_lt 0 (length port.shift)) _ _ LeavesOn (λ yes. beat_on port out is) (λ no. next_on port port.transfer out is.transfer is)

  falls_on : (port : PortRec) → IsOn w port → LeavesOn (falls w port)
  falls_on port is =
      let counted = record port { counter = counter_after port.counter } in
      let on : IsOn w counted = with_counter w port _ _ is (mod-lt (port.counter + 1) (pow_pos 16)) in
      cond_both port.output _ _ LeavesOn (λ out. outputs_on counted out on) (λ no. on)

  at_edge_on : (e : Edge) (level : Word) (high : Bool) (port : PortRec) → level < 2 ^ w → IsOn w port → LeavesOn (at_edge w e level high port)
  at_edge_on edge.None level high port fits is = is
  at_edge_on edge.Rise level high port fits is = rises_on w level fits high port is
  at_edge_on edge.Fall level high port fits is = falls_on port is

  edge_leaves : (e : Edge) (level : Word) (high : Bool) (port : PortRec) → level < 2 ^ w → HasFacts w port → HasFacts w (port_edge w e level high port).port
  edge_leaves e level high _ fits is_off = is_off
  edge_leaves e level high _ fits (is_on port is) =
      cond_both port.on _ _ (λ (left : Edged). HasFacts w left.port) (λ yes. is_on _ (at_edge_on e level high port fits is)) (λ no. is_on port is)

  facts_driven : (port : PortRec) → HasFacts w port → IfSome port.driven (λ value. value < 2 ^ w)
  facts_driven _ is_off = tt
  facts_driven _ (is_on port is) = is.driven

  level_fits : (driven : Option Word) (outside : Word) → IfSome driven (λ value. value < 2 ^ w) → outside < 2 ^ w → level_of driven outside < 2 ^ w
  level_fits None outside is fits = fits
  level_fits (Some value) outside is fits = is

pub edge_keeps : (w : ℕ) (e : Edge) (level : Word) → IsWidth w → level < 2 ^ w → (high : Bool) (port : PortRec) → HasFacts w port → HasFacts w (port_edge w e level high port).port
edge_keeps w e level is fits high port has = edge_leaves w e level high port fits has

-- ---- The edges of a slot

pub slot_keeps : (slot : Slot) (clocks : List ClockRec) (before : List Word) (p : PortNumber) (ports : List PortRec) (outside : List Word) → LevelsFitFrom p outside → AllHaveFacts p ports → AllHaveFacts p (edges_from slot clocks before p ports outside).ports
unfolding edges_from
slot_keeps slot clocks before p [] outside fits have = tt
slot_keeps slot clocks before p (port ∷ ports) [] fits have = have
slot_keeps slot clocks before p (port ∷ ports) (level ∷ outside) fits have =
    let w = port_width p in
    let low = level_fits w port.driven level (facts_driven w port have.0) fits.0 in
    (edge_leaves w (edge_at clocks port.clock slot) (level_of port.driven level) (is_high before port.strobe) port low have.0, slot_keeps slot clocks before (p + 1) ports outside fits.1 have.1)
