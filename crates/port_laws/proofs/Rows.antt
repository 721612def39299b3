-- The rows that act on a port leave what is always true of it.
use Rattle.std.proofs.Common.{ℕ, ◌≡◌, ◌%◌, ◌==◌, ◌&&◌, ◌||◌, not, ◌^◌, ◌≤◌, true, false, nat_lt, is_some, Option, Some, None, [], length, arith, inl, inr}
use Rattle.std.specs.Prelude.{IfSome}
use Rattle.std.proofs.Math.Nat.{mod-lt}
use Rattle.std.proofs.lemmas.Bool.{cond_both, and_parts, or_cases, eqb-true, leb-true, ltb-true}
use Rattle.std.proofs.lemmas.Nat.{pow_pos}
use Rattle.xs_base.specs.Numbers.{Word, PortNumber}
use Rattle.xs_base.specs.Ids.{port_width}
use Rattle.xs_model.specs.declared.clock.Clock.{Clock}
use Rattle.xs_model.specs.declared.modes.TheConstants.{OFF, ON, NO_CONDITION, EQUAL, NOT_EQUAL, CLEAR, NO_BUFFERS, BUFFERS}
use Rattle.xs_model.specs.Record.{PortRec, TransferRec, Condition, Always, Equal, NotEqual, off_port}
use Rattle.xs_model.specs.Bits.{value_of}
use Rattle.xs_model.specs.Ports.{came_in}
use Rattle.xs_model.specs.PortActions.{Acted, Did, where_on, with_condition, set_mode, in_mode, set_clock, set_strobe, is_transfer_width, with_transfer_width, set_transfer_width, set_value, set_time, clear_time, has_left, is_idle, turned_in, wanting, take_transfer, turn_in, take_in, is_part, take_part, let_go, cut_short, end_transfer, end_in, turned_out, fill, put_bits, put_out, put_part, sync, goes_by, restarted}
use Rattle.port_laws.specs.Facts.{AreBeats, IsTransfer, Is16Bits, IsOn, HasFacts, is_off, is_on}
use Rattle.port_laws.specs.Ports.{IsWidth, LeavesFacts, EachKeeps}
use Rattle.port_laws.proofs.Bits.{multiple_some, beats_mod, no_shift}
use Rattle.port_laws.proofs.Changes.{all_beats, with_registers, with_counter, with_value, with_width, with_wanted, turned_in_on, turned_out_on, taken_on}
use Rattle.port_laws.proofs.Edges.{one_beat, on_port_on, shift_transfer}

-- a port has 1 to 32 pins
port_is_width : (p : PortNumber) → IsWidth (port_width p)
port_is_width p =
    cond_both (nat_lt p 16) _ _ IsWidth (λ yes. (omega arith, omega arith)) (λ no.
    cond_both (nat_lt p 22) _ _ IsWidth (λ yes. (omega arith, omega arith)) (λ no.
    cond_both (nat_lt p 26) _ _ IsWidth (λ yes. (omega arith, omega arith)) (λ no.
    cond_both (nat_lt p 28) _ _ IsWidth (λ yes. (omega arith, omega arith)) (λ no. (omega arith, omega arith)))))

-- a transfer may be so wide
width_from : (x : ℕ) → ((x == 1) || ((x == 4) || ((x == 8) || ((x == 16) || (x == 32))))) ≡ true → (1 ≤ x) × (x ≤ 32)
width_from x is = elim (or_cases (x == 1) _ is) [
  | inl e ↦ let same = eqb-true x 1 e in (omega (arith, same), omega (arith, same))
  | inr others ↦ elim (or_cases (x == 4) _ others) [
    | inl e ↦ let same = eqb-true x 4 e in (omega (arith, same), omega (arith, same))
    | inr rest ↦ elim (or_cases (x == 8) _ rest) [
      | inl e ↦ let same = eqb-true x 8 e in (omega (arith, same), omega (arith, same))
      | inr last ↦ elim (or_cases (x == 16) _ last) [
        | inl e ↦ let same = eqb-true x 16 e in (omega (arith, same), omega (arith, same))
        | inr e ↦ let same = eqb-true x 32 e in (omega (arith, same), omega (arith, same))
      ]
    ]
  ]
]

module _ (w : ℕ) where
  abbrev Leaves : Acted → Type 0
  Leaves acted = LeavesFacts w acted

  where_on_leaves : (port : PortRec) (acted : Acted) → Leaves acted → Leaves (where_on port acted)
  where_on_leaves port acted leaves = cond_both port.on _ _ Leaves (λ yes. leaves) (λ no. tt)

  -- ---- On, off and settings

  conditioned_on : (condition : Condition) (port : PortRec) → IsOn w port → IsOn w (with_condition condition port)
  conditioned_on condition port is =
      let there : IsOn w (record port { condition = condition }) =
      with_registers w port condition _ _ port.transfer port.time _ is is.shift is.transfer is.time is.sample_stamp in
      let empty : IsOn w (record port { condition = condition; transfer = None; held = false }) =
      with_registers w port condition false _ None port.time _ is is.shift tt is.time is.sample_stamp in
      cond_both port.output _ _ (IsOn w) (λ yes. there) (λ no. empty)

  set_mode_leaves : (mode : Word) (port : PortRec) → IsWidth w → IsOn w port → Leaves (set_mode w mode port)
  set_mode_leaves mode port width is =
      cond_both (mode == NO_CONDITION) _ _ Leaves (λ yes. is_on _ (conditioned_on Always port is)) (λ no.
      cond_both (mode == EQUAL) _ _ Leaves (λ yes. is_on _ (conditioned_on Equal port is)) (λ no.
      cond_both (mode == NOT_EQUAL) _ _ Leaves (λ yes. is_on _ (conditioned_on NotEqual port is)) (λ no.
      cond_both (mode == CLEAR) _ _ Leaves (λ yes. is_on _ (with_width w port _ _ _ is is.transfer_width is.wanted)) (λ no.
      cond_both (mode == NO_BUFFERS) _ _ Leaves (λ yes. is_on _ (with_width w port false w w is (one_beat w 32 width.1) (one_beat w w (omega arith)))) (λ no.
      cond_both (mode == BUFFERS) _ _ Leaves (λ yes. is_on _ (with_width w port true _ _ is is.transfer_width is.wanted)) (λ no. tt))))))

  in_mode_leaves : (mode : Word) (port : PortRec) → IsWidth w → HasFacts w port → Leaves (in_mode w mode port)
  in_mode_leaves mode port width has =
      cond_both (mode == ON) _ _ Leaves (λ yes. is_on _ (on_port_on w width)) (λ no.
      cond_both (mode == OFF) _ _ Leaves (λ yes. where_on_leaves port (Did off_port (let_go port)) is_off) (λ no. set port has))
    where
      set : (port : PortRec) → HasFacts w port → Leaves (where_on port (set_mode w mode port))
      set _ is_off = tt
      set _ (is_on port is) = where_on_leaves port _ (set_mode_leaves mode port width is)

  clock_leaves : (clock : Clock) (port : PortRec) → HasFacts w port → Leaves (set_clock clock port)
  clock_leaves clock _ is_off = tt
  clock_leaves clock _ (is_on port is) = where_on_leaves port _ (is_on _ (with_counter w port clock 0 is (omega arith)))

  strobe_leaves : (strobe : Option PortNumber) (port : PortRec) → HasFacts w port → Leaves (set_strobe strobe port)
  strobe_leaves strobe _ is_off = tt
  strobe_leaves strobe _ (is_on port is) = where_on_leaves port _ (is_on _ (with_value w port strobe port.value is is.value))

  value_leaves : (x : Word) (port : PortRec) → HasFacts w port → Leaves (set_value w x port)
  value_leaves x _ is_off = tt
  value_leaves x _ (is_on port is) =
      where_on_leaves port _ (is_on _ (with_value w port port.strobe (x % 2 ^ w) is (mod-lt x (pow_pos w))))

  width_leaves : (x : Word) (port : PortRec) → HasFacts w port → Leaves (set_transfer_width w x port)
  width_leaves x _ is_off = tt
  width_leaves x _ (is_on port is) =
      where_on_leaves port _ (cond_both (port.buffered && is_transfer_width w x) _ _ Leaves (λ yes. is_on _ (wide yes)) (λ no. tt))
    where
      beats : (port.buffered && is_transfer_width w x) ≡ true → AreBeats w 32 x
      beats allowed =
          let parts = and_parts _ _ (and_parts port.buffered _ allowed).1 in
          let range = width_from x parts.0 in
          beats_mod w 32 x (eqb-true (x % w) 0 parts.1) range.0 range.1

      wide : (port.buffered && is_transfer_width w x) ≡ true → IsOn w (with_transfer_width x port)
      wide allowed =
          let there = beats allowed in
          with_width w port port.buffered x x is there (record { whole = there.whole; least = there.least; most = omega arith })

  time_leaves : (x : Word) (port : PortRec) → HasFacts w port → Leaves (set_time x port)
  time_leaves x _ is_off = tt
  time_leaves x _ (is_on port is) =
      let time = Some (x % 2 ^ 16) in
      let below : Is16Bits (x % 2 ^ 16) = mod-lt x (pow_pos 16) in
      let there : IsOn w (record port { time = time }) =
      with_registers w port _ _ _ port.transfer time _ is is.shift is.transfer below is.sample_stamp in
      let empty : IsOn w (record port { time = time; transfer = None; held = false }) =
      with_registers w port _ false _ None time _ is is.shift tt below is.sample_stamp in
      where_on_leaves port _ (is_on _ (cond_both port.output _ _ (IsOn w) (λ yes. there) (λ no. empty)))

  no_time_leaves : (port : PortRec) → HasFacts w port → Leaves (clear_time port)
  no_time_leaves _ is_off = tt
  no_time_leaves _ (is_on port is) =
      where_on_leaves port _ (is_on _ (with_registers w port _ _ _ port.transfer None _ is is.shift is.transfer tt is.sample_stamp))

  -- ---- Input

  wanting_on : (wanted : Option ℕ) (port : PortRec) → IfSome wanted (AreBeats w port.transfer_width) → IsOn w port → IsOn w (wanting wanted port)
  wanting_on None port beats is = is
  wanting_on (Some bits) port beats is = with_wanted w port bits is beats

  transfer_leaves : (p : PortNumber) (wanted : Option ℕ) (port : PortRec) (transfer : Option TransferRec) → IfSome wanted (AreBeats w port.transfer_width) → IsOn w port → Leaves (take_transfer p wanted port transfer)
  transfer_leaves p wanted port None beats is = is_on _ (wanting_on wanted port beats is)
  transfer_leaves p wanted port (Some t) beats is = is_on _ (taken_on w port is)

  turn_leaves : (p : PortNumber) (wanted : Option ℕ) (port : PortRec) → IfSome wanted (AreBeats w port.transfer_width) → IsOn w port → Leaves (turn_in p wanted port)
  turn_leaves p wanted port beats is =
      cond_both (not (has_left port)) _ _ Leaves (λ yes. is_on _ (wanting_on wanted (turned_in port) beats (turned_in_on w port is))) (λ no. is_on _ (wanting_on wanted port beats is))

  take_leaves : (p : PortNumber) (wanted : Option ℕ) (port : PortRec) → IfSome wanted (AreBeats w port.transfer_width) → HasFacts w port → Leaves (take_in p wanted port)
  take_leaves p wanted _ beats is_off = tt
  take_leaves p wanted _ beats (is_on port is) =
      where_on_leaves port _ (cond_both port.output _ _ Leaves (λ yes. turn_leaves p wanted port beats is) (λ no. transfer_leaves p wanted port port.transfer beats is))

  part_beats : (bits : ℕ) (port : PortRec) → 1 ≤ bits → is_part w bits port ≡ true → AreBeats w port.transfer_width bits
  part_beats bits port some allowed =
      let parts = and_parts _ _ (and_parts port.buffered _ allowed).1 in
      beats_mod w port.transfer_width bits (eqb-true (bits % w) 0 parts.0) some (leb-true bits port.transfer_width parts.1)

  cut_on : (port : PortRec) → IsOn w port → IsOn w (cut_short port)
  cut_on port is =
      let t = came_in (value_of port.shift) (length port.shift) in
      cond_both (nat_lt 0 (length port.shift)) _ _ (IsOn w) (λ some. with_registers w port _ _ [] (Some t) _ _ is (no_shift w port.transfer_width) (shift_transfer w port is (multiple_some w (length port.shift) is.shift.whole (ltb-true 0 (length port.shift) some))) is.time is.counter) (λ no. is)

  transfer_ends : (port : PortRec) (transfer : Option TransferRec) → IsOn w port → Leaves (end_transfer port transfer)
  transfer_ends port None is = is_on _ (cut_on port is)
  transfer_ends port (Some t) is = is_on _ is

  end_leaves : (port : PortRec) → HasFacts w port → Leaves (end_in port)
  end_leaves _ is_off = tt
  end_leaves _ (is_on port is) =
      where_on_leaves port _ (cond_both (port.output || not port.buffered) _ _ Leaves (λ yes. tt) (λ no. transfer_ends port port.transfer is))

  -- ---- Output

  fill_leaves : (p : PortNumber) (bits : ℕ) (word : Word) (port : PortRec) → AreBeats w port.transfer_width bits → IsOn w port → Leaves (fill p bits word port)
  fill_leaves p bits word port beats is =
      let t : TransferRec = record { value = word % 2 ^ bits; bits = bits; time = port.time } in
      let fits : IsTransfer w port.transfer_width t =
      record { bits = beats; value = mod-lt word (pow_pos bits); time = is.time } in
      cond_both (is_some port.transfer) _ _ Leaves (λ yes. is_on _ is) (λ no. is_on _ (with_registers w port _ _ _ (Some t) None _ is is.shift fits tt is.sample_stamp))

  put_leaves : (p : PortNumber) (bits : ℕ) (word : Word) (port : PortRec) → AreBeats w port.transfer_width bits → IsOn w port → Leaves (put_bits p bits word port)
  put_leaves p bits word port beats is =
      let fills = cond_both port.output port (turned_out port) (λ q. Leaves (fill p bits word q)) (λ yes. fill_leaves p bits word port beats is) (λ no. fill_leaves p bits word (turned_out port) beats (turned_out_on w port is)) in
      where_on_leaves port _ fills

  out_leaves : (p : PortNumber) (word : Word) (port : PortRec) → HasFacts w port → Leaves (put_out p word port)
  out_leaves p word _ is_off = tt
  out_leaves p word _ (is_on port is) = put_leaves p port.transfer_width word port (all_beats w port is) is

  part_out_leaves : (p : PortNumber) (bits : ℕ) (word : Word) (port : PortRec) → AreBeats w port.transfer_width bits → HasFacts w port → Leaves (put_bits p bits word port)
  part_out_leaves p bits word _ beats is_off = tt
  part_out_leaves p bits word _ beats (is_on port is) = put_leaves p bits word port beats is

  -- ---- What changes nothing, and clocks that start

  sync_leaves : (p : PortNumber) (port : PortRec) → HasFacts w port → Leaves (sync p port)
  sync_leaves p port has =
      where_on_leaves port _ (cond_both (is_idle port) _ _ Leaves (λ yes. has) (λ no. has))

  started_leaves : (n : ℕ) (port : PortRec) → HasFacts w port → HasFacts w (restarted n port)
  started_leaves n _ is_off = is_off
  started_leaves n _ (is_on port is) =
      cond_both (goes_by n port.clock) _ _ (HasFacts w) (λ yes. is_on _ (with_counter w port port.clock 0 is (omega arith))) (λ no. is_on port is)

-- ---- Parts of transfers

module _ (p : PortNumber) (bits : ℕ) (port : PortRec) (some : 1 ≤ bits) (has : HasFacts (port_width p) port) where
  part_taken : LeavesFacts (port_width p) (take_part p bits port)
  part_taken =
      let w = port_width p in
      cond_both (is_part w bits port) _ _ (LeavesFacts w) (λ yes. take_leaves w p (Some bits) port (part_beats w bits port some yes) has) (λ no. tt)

  part_put : (word : Word) → LeavesFacts (port_width p) (put_part p bits word port)
  part_put word =
      let w = port_width p in
      cond_both (is_part w bits port) _ _ (LeavesFacts w) (λ yes. part_out_leaves w p bits word port (part_beats w bits port some yes) has) (λ no. tt)

pub rows_keep : (p : PortNumber) (port : PortRec) → HasFacts (port_width p) port → EachKeeps p port
rows_keep p port has =
    let w = port_width p in
    record {
      mode = λ mode. in_mode_leaves w mode port (port_is_width p) has;
      clock = λ clock. clock_leaves w clock port has;
      strobe = λ strobe. strobe_leaves w strobe port has;
      transfer_width = λ x. width_leaves w x port has;
      value = λ x. value_leaves w x port has;
      time = λ x. time_leaves w x port has;
      no_time = no_time_leaves w port has;
      told_value = where_on_leaves w port _ has;
      told_stamp = where_on_leaves w port _ has;
      peeked = λ outside. where_on_leaves w port _ has;
      taken = take_leaves w p None port tt has;
      part_taken = λ bits some. part_taken p bits port some has;
      ended = end_leaves w port has;
      put = λ word. out_leaves w p word port has;
      part_put = λ bits word some. part_put p bits port some has word;
      synced = sync_leaves w p port has;
      clock_started = λ n. started_leaves w n port has;
    }
