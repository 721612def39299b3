-- The ports at the start.
use Rattle.std.proofs.Common.{ℕ, ◌≡◌, ◌<◌, false, eqb, List, replicate, ap, sym, subst, ◌∙◌, arith, inl, inr}
use Rattle.std.specs.Array.{AllOfLen}
use Rattle.std.proofs.lemmas.Bool.{cases_lt, false≢true}
use Rattle.std.proofs.lemmas.List.{ext_get_or, length-replicate, get_or-replicate, get_or_past}
use Rattle.std.proofs.lemmas.Nat.Bits.{bit_at-zero}
use Rattle.std.specs.Prelude.{is_some, not}
use Rattle.xs_model.specs.Choices.{port_is_ready}
use Rattle.xs_model.specs.Masks.{in_mask}
use Rattle.xs_model.specs.Record.{PortRec, off_port}
use Rattle.quiet_model.specs.Still.{port_is_still}
use Rattle.buffered_ports.specs.Asks.{no_ports, port_at}
use Rattle.single_port.specs.Keeps.{PortOf, IsPlaced}
use Rattle.buffered_ports.specs.Keeps.{AreMasks}
use Rattle.buffered_ports.specs.Row.{no_place, place_at, ports_in, IsRow}

-- each place is as it is where no port is
pub all_off : (places : List PortOf) (n : ℕ) → AllOfLen (λ that. that ≡ no_place) places n → places ≡ replicate n no_place
all_off places n off =
    ext_get_or no_place places (replicate n no_place) (off.long ∙ sym (length-replicate n no_place)) (λ i h.
    let within : i < n = omega (arith, h, off.long) in
    off.at i no_place within ∙ sym (get_or-replicate n i no_place no_place within))

pub first_ports : (places : List PortOf) → AllOfLen (λ that. that ≡ no_place) places 29 → ports_in places ≡ no_ports
first_ports places off = ap ports_in (all_off places 29 off)

port_off : (p : ℕ) → port_at no_ports p ≡ off_port
port_off p =
    elim (cases_lt p 29) [
      | inl within ↦ get_or-replicate 29 p off_port off_port within
      | inr past ↦ get_or_past no_ports p off_port (omega (arith, past, length-replicate 29 off_port))
    ]

place_off : (p : ℕ) → place_at (replicate 29 no_place) p ≡ no_place
place_off p =
    elim (cases_lt p 29) [
      | inl within ↦ get_or-replicate 29 p no_place no_place within
      | inr past ↦ get_or_past (replicate 29 no_place) p no_place (omega (arith, past, length-replicate 29 no_place))
    ]

none_in : (p : ℕ) → in_mask 0 p ≡ false
none_in p = ap (λ b. eqb b 1) (bit_at-zero p)

pub first_row : (places : List PortOf) → AllOfLen (λ that. that ≡ no_place) places 29 → IsRow (record { ports = places; on = 0; ready = 0; strobed = 0; moving = 0; plain = 0 })
first_row places off =
    let are : places ≡ replicate 29 no_place = all_off places 29 off in
    let ports : ports_in places ≡ no_ports = first_ports places off in
    record {
      count = off.long;
      placed = λ p. subst (IsPlaced p) (sym (place_off p) ∙ ap (λ ps. place_at ps p) (sym are)) (λ on. absurd (false≢true on));
      masks = subst (AreMasks 0 0 0 0 0) (sym ports) (record {
        on = λ p below. none_in p ∙ sym (ap (λ (port : PortRec). port.on) (port_off p));
        ready = λ p below. none_in p ∙ sym (ap port_is_ready (port_off p));
        strobed = λ p below. none_in p ∙ sym (ap (λ (port : PortRec). is_some port.strobe) (port_off p));
        moving = λ p below. none_in p ∙ sym (ap (λ (port : PortRec). not (port_is_still port)) (port_off p));
        plain = λ p below noted. absurd (false≢true (sym (none_in p) ∙ noted));
      });
    }
