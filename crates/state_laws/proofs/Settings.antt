-- The clock of a port, its strobe and the width of its transfers stay as they may be: under rows that act on it, and under edges.
use Rattle.std.proofs.Common.{◌≡◌, ℕ, zero, suc, ◌+◌, ◌==◌, ◌&&◌, ◌||◌, not, nat_lt, Bool, true, false, if◌then◌else◌, is_some, Option, Some, None, List, [], ◌∷◌, length, get_or, refl}
use Rattle.std.proofs.lemmas.Bool.{cond_both, and_parts, both_ways, false≢true, true≢false}
use Rattle.std.specs.Prelude.{IfSome}
use Rattle.xs_base.specs.Numbers.{Slot, Word, PortNumber}
use Rattle.xs_base.specs.Ids.{port_width}
use Rattle.xs_model.specs.declared.clock.Clock.{Clock}
use Rattle.xs_model.specs.declared.clock.Edge.{Edge}
use Rattle.xs_model.specs.declared.clock.Edge.TheVariants as edge
use Rattle.xs_model.specs.declared.modes.TheConstants.{OFF, ON, NO_CONDITION, EQUAL, NOT_EQUAL, CLEAR, NO_BUFFERS, BUFFERS}
use Rattle.xs_model.specs.Record.{PortRec, TransferRec, ClockRec, Condition, Always, Equal, NotEqual, off_port}
use Rattle.xs_model.specs.Time.{edge_at}
use Rattle.xs_model.specs.Ports.{level_of, is_high, Edged, counter_after, is_due, next_out, outputs, falls, is_met, is_condition, takes_if_met, takes_in_time, takes_by_time, samples, is_complete, keeps_or_takes, completes, shifts_in, begins, samples_buffered, sampled, lets_sample, rises, at_edge, port_edge, edges_from}
use Rattle.xs_model.specs.PortActions.{Acted, Did, Got, Waits, Refused, on_port, with_condition, set_mode, in_mode, is_transfer_width, has_left, is_idle, wanting, turned_in, take_transfer, turn_in, take_in, is_part, end_transfer, turned_out, fill, put_bits, goes_by, restarted}
use Rattle.single_port.specs.Asks.{IsClock}
use Rattle.single_port.specs.States.{IsStrobeState}
use Rattle.state_laws.specs.Facts.{AreSettings, IsSet}
use Rattle.state_laws.proofs.Changes.{PortRow}
use Rattle.state_laws.proofs.Changes as change

module _ (p : PortNumber) where
  abbrev Set : PortRec → Type 0
  Set port = IsSet p port

  either : (holds : Bool) (x y : PortRec) → Set x → Set y → Set (if holds then x else y)
  either true x y one other = one
  either false x y one other = other

  pub off_set : Set off_port
  off_set = record { goes_by = tt; let_by = tt; width = λ on. absurd (false≢true on); one_beat = λ on. absurd (false≢true on) }

  own_width : is_transfer_width (port_width p) (port_width p) ≡ true
  own_width = of_width (nat_lt p 16) (nat_lt p 22) (nat_lt p 26) (nat_lt p 28)
    where
      of_width : (a b c d : Bool) → let w : ℕ = if a then 1 else (if b then 4 else (if c then 8 else (if d then 16 else 32))) in is_transfer_width w w ≡ true
      of_width true b c d = refl
      of_width false true c d = refl
      of_width false false true d = refl
      of_width false false false true = refl
      of_width false false false false = refl

  on_set : Set (on_port (port_width p))
  on_set = record { goes_by = tt; let_by = tt; width = λ on. own_width; one_beat = λ on no_buffers. refl }

  -- ---- Rows

  abbrev pub LeavesSet : Acted → Type 0
  LeavesSet (Did port change) = Set port
  LeavesSet (Got port word) = Set port
  LeavesSet (Waits port wait change) = Set port
  LeavesSet Refused = Unit {0}

  or_left : (holds : Bool) (x y : Acted) → LeavesSet x → LeavesSet y → LeavesSet (if holds then x else y)
  or_left true x y one other = one
  or_left false x y one other = other

  module _ (port : PortRec) (h : Set port) where
    condition_set : (condition : Condition) → Set (with_condition condition port)
    condition_set condition = either port.output _ _ h h

    mode_set : (x : Word) → LeavesSet (in_mode (port_width p) x port)
    mode_set x =
        let unbuffered : AreSettings p port.on port.clock port.strobe (port_width p) false =
        record { goes_by = h.goes_by; let_by = h.let_by; width = λ on. own_width; one_beat = λ on no_buffers. refl } in
        let buffered : AreSettings p port.on port.clock port.strobe port.transfer_width true =
        record { goes_by = h.goes_by; let_by = h.let_by; width = h.width; one_beat = λ on no_buffers. absurd (true≢false no_buffers) } in
        let set : LeavesSet (set_mode (port_width p) x port) =
        or_left (x == NO_CONDITION) _ _ (condition_set Always)
        (or_left (x == EQUAL) _ _ (condition_set Equal)
        (or_left (x == NOT_EQUAL) _ _ (condition_set NotEqual)
        (or_left (x == CLEAR) _ _ h
        (or_left (x == NO_BUFFERS) _ _ unbuffered
        (or_left (x == BUFFERS) _ Refused buffered tt))))) in
        or_left (x == ON) _ _ on_set (or_left (x == OFF) _ _ (or_left port.on _ Refused off_set tt) (or_left port.on _ Refused set tt))

    clock_set : (clock : Clock) → IsClock clock → AreSettings p port.on clock port.strobe port.transfer_width port.buffered
    clock_set clock is = record { goes_by = is; let_by = h.let_by; width = h.width; one_beat = h.one_beat }

    strobe_set : (strobe : Option PortNumber) → IfSome strobe (IsStrobeState p) → AreSettings p port.on port.clock strobe port.transfer_width port.buffered
    strobe_set strobe is = record { goes_by = h.goes_by; let_by = is; width = h.width; one_beat = h.one_beat }

    width_set : (x : Word) → (port.buffered && is_transfer_width (port_width p) x) ≡ true → AreSettings p port.on port.clock port.strobe x port.buffered
    width_set x allowed =
        let parts = and_parts port.buffered (is_transfer_width (port_width p) x) allowed in
        record { goes_by = h.goes_by; let_by = h.let_by; width = λ on. parts.1; one_beat = λ on no_buffers. absurd (both_ways _ no_buffers parts.0) }

    transfer_set : (wanted : Option ℕ) (transfer : Option TransferRec) → LeavesSet (take_transfer p wanted port transfer)
    transfer_set None None = h
    transfer_set (Some bits) None = h
    transfer_set wanted (Some t) = h

    wanting_set : (wanted : Option ℕ) (other : PortRec) → Set other → Set (wanting wanted other)
    wanting_set None other its = its
    wanting_set (Some bits) other its = its

    in_set : (wanted : Option ℕ) → LeavesSet (take_in p wanted port)
    in_set wanted =
        let turns : LeavesSet (turn_in p wanted port) = or_left (not (has_left port)) _ _ (wanting_set wanted (turned_in port) h) (wanting_set wanted port h) in
        or_left port.on _ Refused (or_left port.output _ _ turns (transfer_set wanted port.transfer)) tt

    end_set : (transfer : Option TransferRec) → LeavesSet (end_transfer port transfer)
    end_set None = either (nat_lt 0 (length port.shift)) _ _ h h
    end_set (Some t) = h

    bits_set : (bits : ℕ) (word : Word) → LeavesSet (put_bits p bits word port)
    bits_set bits word =
        let at = if port.output then port else turned_out port in
        let its : Set at = either port.output port (turned_out port) h h in
        let fills : LeavesSet (fill p bits word at) = or_left (is_some at.transfer) _ _ its its in
        or_left port.on _ Refused fills tt

    pub row_set : (S : Type 0) (acted : Acted) → PortRow S p port acted → LeavesSet acted
    row_set S _ (change.mode x) = mode_set x
    row_set S _ (change.clock clock is) = or_left port.on _ Refused (clock_set clock is) tt
    row_set S _ (change.strobe strobe is) = or_left port.on _ Refused (strobe_set strobe is) tt
    row_set S _ (change.transfer_width x) =
        or_left port.on _ Refused (cond_both (port.buffered && is_transfer_width (port_width p) x) _ Refused LeavesSet (width_set x) (λ other. tt)) tt
    row_set S _ (change.value x) = or_left port.on _ Refused h tt
    row_set S _ (change.time x) = or_left port.on _ Refused (either port.output _ _ h h) tt
    row_set S _ change.no_time = or_left port.on _ Refused h tt
    row_set S _ change.told_value = or_left port.on _ Refused h tt
    row_set S _ change.told_stamp = or_left port.on _ Refused h tt
    row_set S _ (change.peeked outside) = or_left port.on _ Refused h tt
    row_set S _ change.taken = in_set None
    row_set S _ (change.part_taken bits some) = or_left (is_part (port_width p) bits port) _ Refused (in_set (Some bits)) tt
    row_set S _ change.ended = or_left port.on _ Refused (or_left (port.output || not port.buffered) Refused _ tt (end_set port.transfer)) tt
    row_set S _ (change.put word) = bits_set port.transfer_width word
    row_set S _ (change.part_put bits word some) = or_left (is_part (port_width p) bits port) _ Refused (bits_set bits word) tt
    row_set S _ change.synced = or_left port.on _ Refused (or_left (is_idle port) _ _ h h) tt
    row_set S _ change.refused = tt

    pub restarted_set : (n : ℕ) → Set (restarted n port)
    restarted_set n = either (goes_by n port.clock) _ _ h h

  -- ---- Edges

  module _ (width : ℕ) where
    module _ (level : Word) where
      if_met_set : (port : PortRec) → Set port → Set (takes_if_met width level port)
      if_met_set port h = either (is_met port.condition port.value level) _ _ h h

      in_time_set : (port : PortRec) → Set port → Set (takes_in_time width level port)
      in_time_set port h = either (is_condition port.condition) _ _ (if_met_set (record port { time = None }) h) h

      by_time_set : (port : PortRec) (time : Option ℕ) → Set port → Set (takes_by_time width level port time)
      by_time_set port None h = if_met_set port h
      by_time_set port (Some time) h = either (port.counter == time) _ _ (in_time_set port h) h

      samples_set : (port : PortRec) → Set port → Set (samples width level port)
      samples_set port h = either port.held _ _ h (by_time_set port port.time h)

      completes_set : (port : PortRec) → Set port → Set (completes port)
      completes_set port h =
          let kept : Set (keeps_or_takes port) = either (is_some port.transfer) _ _ h h in
          either (is_complete port port.time) _ _ kept h

      buffered_set : (port : PortRec) → Set port → Set (samples_buffered width level port)
      buffered_set port h =
          let begun : Set (begins port) = either (is_condition port.condition) _ _ h h in
          either (is_met port.condition port.value level) _ _ (completes_set (shifts_in width level (begins port)) begun) h

      rises_set : (high : Bool) (port : PortRec) → Set port → Set (rises width level high port)
      rises_set high port h =
          let taken : Set (sampled width level port) = either port.buffered _ _ (buffered_set port h) (samples_set port h) in
          either port.output _ _ h (either (lets_sample port.strobe high) _ _ taken h)

    abbrev SetAfter : Edged → Type 0
    SetAfter e = Set e.port

    or_after : (holds : Bool) (x y : Edged) → SetAfter x → SetAfter y → SetAfter (if holds then x else y)
    or_after true x y one other = one
    or_after false x y one other = other

    next_set : (port : PortRec) (next : Option TransferRec) → Set port → SetAfter (next_out width port next)
    next_set port None h = h
    next_set port (Some t) h = or_after (is_due port.counter t.time) _ _ h h

    outputs_set : (port : PortRec) → Set port → SetAfter (outputs width port)
    outputs_set port h = or_after (nat_lt 0 (length port.shift)) _ _ h (next_set port port.transfer h)

    falls_set : (port : PortRec) → Set port → SetAfter (falls width port)
    falls_set port h = or_after port.output _ _ (outputs_set (record port { counter = counter_after port.counter }) h) h

    at_edge_set : (e : Edge) (level : Word) (high : Bool) (port : PortRec) → Set port → SetAfter (at_edge width e level high port)
    at_edge_set edge.None level high port h = h
    at_edge_set edge.Rise level high port h = rises_set level high port h
    at_edge_set edge.Fall level high port h = falls_set port h

    edge_set : (e : Edge) (level : Word) (high : Bool) (port : PortRec) → Set port → SetAfter (port_edge width e level high port)
    edge_set e level high port h = or_after port.on _ _ (at_edge_set e level high port h) h

  -- the edges of a slot
  pub edges_set : (slot : Slot) (clocks : List ClockRec) (levels : List Word) (n : PortNumber) (ports : List PortRec) (outside : List Word) (i : ℕ) → Set (get_or ports i off_port) → Set (get_or (edges_from slot clocks levels n ports outside).ports i off_port)
  unfolding edges_from
  edges_set slot clocks levels n [] outside i h = h
  edges_set slot clocks levels n (port ∷ ports) [] i h = h
  edges_set slot clocks levels n (port ∷ ports) (o ∷ outside) zero h =
      edge_set (port_width n) (edge_at clocks port.clock slot) (level_of port.driven o) (is_high levels port.strobe) port h
  edges_set slot clocks levels n (port ∷ ports) (o ∷ outside) (suc i) h = edges_set slot clocks levels (n + 1) ports outside i h
