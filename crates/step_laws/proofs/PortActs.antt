-- What a row does at a port leaves what the port drives, or lets go of it: no row drives a pin, and none brings bits to the shift register.
use Rattle.std.proofs.Common.{◌≡◌, ◌≢◌, ℕ, ◌==◌, ◌&&◌, ◌||◌, not, nat_lt, Bool, true, false, is_some, if◌then◌else◌, Option, Some, None, length, refl, sym, ◌∙◌}
use Rattle.std.proofs.lemmas.Option.{none-some}
use Rattle.xs_base.specs.Numbers.{Word, PortNumber}
use Rattle.xs_base.specs.Ids.{port_width}
use Rattle.xs_model.specs.declared.clock.Clock.{Clock}
use Rattle.xs_model.specs.declared.modes.TheConstants.{OFF, ON, NO_CONDITION, EQUAL, NOT_EQUAL, CLEAR, NO_BUFFERS, BUFFERS}
use Rattle.xs_model.specs.declared.pins.PinChange.{PinChange}
use Rattle.xs_model.specs.declared.pins.PinChange.TheVariants.{Drive, Float}
use Rattle.xs_model.specs.Record.{PortRec, TransferRec, Condition, Always, Equal, NotEqual}
use Rattle.port_laws.specs.Facts.{AreBits}
use Rattle.xs_model.specs.PortActions.{Acted, Did, Got, Waits, Refused, turned_on, turned_off, with_condition, set_mode, in_mode, set_clock, set_strobe, is_transfer_width, set_transfer_width, set_value, set_time, clear_time, tell_value, tell_stamp, peek, has_left, is_idle, turned_in, wanting, take_transfer, turn_in, take_in, is_part, take_part, end_transfer, end_in, turned_out, fill, put_bits, put_out, put_part, sync}

-- what a port drives after such a change
abbrev pub LetsGo : Option Word → Option PinChange → Option Word → Type 0
LetsGo before None after = after ≡ before
LetsGo before (Some (Drive value)) after = ⊥
LetsGo before (Some Float) after = (after ≡ None) × (before ≢ None)

-- a port after another, with such a change: it has no new bits in its shift register
abbrev pub GoesTo : PortRec → Option PinChange → PortRec → Type 0
GoesTo before change port = LetsGo before.driven change port.driven × (AreBits before.shift → AreBits port.shift)

-- and it drives what the other drove
abbrev Keeps : PortRec → PortRec → Type 0
Keeps before port = GoesTo before None port

-- where the row is not refused
abbrev pub ActsWell : PortRec → Acted → Type 0
ActsWell before (Did port change) = GoesTo before change port
ActsWell before (Got port word) = GoesTo before None port
ActsWell before (Waits port wait change) = GoesTo before change port
ActsWell before Refused = Unit {0}

either : (before : PortRec) (holds : Bool) (x y : Acted) → ActsWell before x → ActsWell before y → ActsWell before (if holds then x else y)
either before true x y one other = one
either before false x y one other = other

-- one port or another
or_keeps : (before : PortRec) (holds : Bool) (x y : PortRec) → Keeps before x → Keeps before y → Keeps before (if holds then x else y)
or_keeps before true x y one other = one
or_keeps before false x y one other = other

lets_go : (before : Option Word) → LetsGo before (if is_some before then Some Float else None) None
lets_go None = refl
lets_go (Some driven) = (refl, λ same. none-some driven (sym same))

-- ---- On, off and settings

turned_on_well : (width : ℕ) (port : PortRec) → ActsWell port (turned_on width port)
turned_on_well width port = (lets_go port.driven, λ bits. tt)

turned_off_well : (port : PortRec) → ActsWell port (turned_off port)
turned_off_well port = either port port.on _ Refused (lets_go port.driven, λ bits. tt) tt

condition_keeps : (condition : Condition) (port : PortRec) → Keeps port (with_condition condition port)
condition_keeps condition port = or_keeps port port.output _ _ (refl, λ bits. bits) (refl, λ bits. bits)

pub in_mode_well : (width : ℕ) (mode : Word) (port : PortRec) → ActsWell port (in_mode width mode port)
in_mode_well width mode port =
    either port (mode == ON) _ _ (turned_on_well width port)
    (either port (mode == OFF) _ _ (turned_off_well port) (either port port.on _ Refused set_well tt))
  where
    set_well : ActsWell port (set_mode width mode port)
    set_well =
        either port (mode == NO_CONDITION) _ _ (condition_keeps Always port)
        (either port (mode == EQUAL) _ _ (condition_keeps Equal port)
        (either port (mode == NOT_EQUAL) _ _ (condition_keeps NotEqual port)
        (either port (mode == CLEAR) _ _ (refl, λ bits. tt)
        (either port (mode == NO_BUFFERS) _ _ (refl, λ bits. tt) (either port (mode == BUFFERS) _ Refused (refl, λ bits. tt) tt)))))

pub set_clock_well : (clock : Clock) (port : PortRec) → ActsWell port (set_clock clock port)
set_clock_well clock port = either port port.on _ Refused (refl, λ bits. bits) tt

pub set_strobe_well : (strobe : Option PortNumber) (port : PortRec) → ActsWell port (set_strobe strobe port)
set_strobe_well strobe port = either port port.on _ Refused (refl, λ bits. bits) tt

pub set_transfer_width_well : (width : ℕ) (x : Word) (port : PortRec) → ActsWell port (set_transfer_width width x port)
set_transfer_width_well width x port =
    either port port.on _ Refused (either port (port.buffered && is_transfer_width width x) _ Refused (refl, λ bits. tt) tt) tt

pub set_value_well : (width : ℕ) (x : Word) (port : PortRec) → ActsWell port (set_value width x port)
set_value_well width x port = either port port.on _ Refused (refl, λ bits. bits) tt

pub set_time_well : (x : Word) (port : PortRec) → ActsWell port (set_time x port)
set_time_well x port = either port port.on _ Refused (or_keeps port port.output _ _ (refl, λ bits. bits) (refl, λ bits. bits)) tt

pub clear_time_well : (port : PortRec) → ActsWell port (clear_time port)
clear_time_well port = either port port.on _ Refused (refl, λ bits. bits) tt

-- ---- What is told

pub tell_value_well : (port : PortRec) → ActsWell port (tell_value port)
tell_value_well port = either port port.on _ Refused (refl, λ bits. bits) tt

pub tell_stamp_well : (port : PortRec) → ActsWell port (tell_stamp port)
tell_stamp_well port = either port port.on _ Refused (refl, λ bits. bits) tt

pub peek_well : (outside : Word) (port : PortRec) → ActsWell port (peek outside port)
peek_well outside port = either port port.on _ Refused (refl, λ bits. bits) tt

-- ---- Input and output

wanting_keeps : (wanted : Option ℕ) (port : PortRec) → Keeps port (wanting wanted port)
wanting_keeps None port = (refl, λ bits. bits)
wanting_keeps (Some wanted) port = (refl, λ bits. bits)

take_well : (p : PortNumber) (wanted : Option ℕ) (port : PortRec) (transfer : Option TransferRec) → ActsWell port (take_transfer p wanted port transfer)
take_well p wanted port None = wanting_keeps wanted port
take_well p wanted port (Some t) = (refl, λ bits. bits)

lets_go_wanting : (before : Option Word) (wanted : Option ℕ) (port : PortRec) → port.driven ≡ None → LetsGo before (if is_some before then Some Float else None) (wanting wanted port).driven
lets_go_wanting None wanted port none = (wanting_keeps wanted port).0 ∙ none
lets_go_wanting (Some driven) wanted port none =
    ((wanting_keeps wanted port).0 ∙ none, λ same. none-some driven (sym same))

pub take_in_well : (p : PortNumber) (wanted : Option ℕ) (port : PortRec) → ActsWell port (take_in p wanted port)
take_in_well p wanted port =
    either port port.on _ Refused (either port port.output _ _ turns (take_well p wanted port port.transfer)) tt
  where
    turns : ActsWell port (turn_in p wanted port)
    turns =
        either port (not (has_left port)) _ _ (lets_go_wanting port.driven wanted (turned_in port) refl, λ bits. (wanting_keeps wanted (turned_in port)).1 tt) (wanting_keeps wanted port)

pub take_part_well : (p : PortNumber) (bits : ℕ) (port : PortRec) → ActsWell port (take_part p bits port)
take_part_well p bits port = either port (is_part (port_width p) bits port) _ Refused (take_in_well p (Some bits) port) tt

end_well : (port : PortRec) (transfer : Option TransferRec) → ActsWell port (end_transfer port transfer)
end_well port None = or_keeps port (nat_lt 0 (length port.shift)) _ _ (refl, λ bits. tt) (refl, λ bits. bits)
end_well port (Some t) = (refl, λ bits. bits)

pub end_in_well : (port : PortRec) → ActsWell port (end_in port)
end_in_well port =
    either port port.on _ Refused (either port (port.output || not port.buffered) Refused _ tt (end_well port port.transfer)) tt

fill_well : (p : PortNumber) (bits : ℕ) (word : Word) (before port : PortRec) → Keeps before port → ActsWell before (fill p bits word port)
fill_well p bits word before port h = either before (is_some port.transfer) _ _ h h

put_bits_well : (p : PortNumber) (bits : ℕ) (word : Word) (port : PortRec) → ActsWell port (put_bits p bits word port)
put_bits_well p bits word port =
    let turned = if port.output then port else turned_out port in
    either port port.on _ Refused (fill_well p bits word port turned (or_keeps port port.output port (turned_out port) (refl, λ bits. bits) (refl, λ bits. tt))) tt

pub put_out_well : (p : PortNumber) (word : Word) (port : PortRec) → ActsWell port (put_out p word port)
put_out_well p word port = put_bits_well p port.transfer_width word port

pub put_part_well : (p : PortNumber) (bits : ℕ) (word : Word) (port : PortRec) → ActsWell port (put_part p bits word port)
put_part_well p bits word port = either port (is_part (port_width p) bits port) _ Refused (put_bits_well p bits word port) tt

pub sync_well : (p : PortNumber) (port : PortRec) → ActsWell port (sync p port)
sync_well p port =
    either port port.on _ Refused (either port (is_idle port) _ _ (refl, λ bits. bits) (refl, λ bits. bits)) tt
