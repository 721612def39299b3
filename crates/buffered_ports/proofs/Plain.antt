-- Plain ports that are ready.
use Rattle.std.proofs.Common.{ℕ, ◌≡◌, Bool, true, false, refl, ap, sym, ◌∙◌, ◌<◌, get_or, arith}
use Rattle.std.specs.Prelude.{is_some, not, ◌&&◌}
use Rattle.std.proofs.lemmas.Bool.{false≢true}
use Rattle.xs_model.specs.Choices.{port_is_ready}
use Rattle.xs_model.specs.Record.{PortRec}
use Rattle.xs_model.specs.Masks.{in_mask}
use Rattle.single_port.specs.Keeps.{PortOf, IsPlain}
use Rattle.buffered_ports.specs.Row.{row, IsRow}
use Rattle.buffered_ports.specs.declared.ports.Ports.TheInside.{Inside}
use Rattle.buffered_ports.proofs.Row.{read}

second : (a b : Bool) → (a && b) ≡ true → b ≡ true
second true b both = both
second false b both = absurd (false≢true both)

pub ready_where_full : (port : PortRec) → IsPlain port → is_some port.transfer ≡ true → true ≡ port_is_ready port
ready_where_full port plain full = sym (ap (λ output. not output && is_some port.transfer) plain.output ∙ full)

was_so : (b : Bool) → not b ≡ false → b ≡ true
was_so true e = refl
was_so false e = absurd (false≢true (sym e))

-- a port that the mask of those that are ready has is full
pub was_full : (c : Inside) (p : ℕ) (r : PortOf) (is_ready : Bool) → IsRow c → p < 29 → is_ready ≡ in_mask c.ready p → not is_ready ≡ false → is_some (get_or c.ports p r).port.transfer ≡ true
was_full c p r is_ready is within bit ready =
    let port : PortRec = (get_or c.ports p r).port in
    second (not port.output) (is_some port.transfer)
    (ap port_is_ready (read c.ports (row c) p r refl (omega (arith, within, is.count)))
    ∙ sym (is.masks.ready p (omega (arith, within)))
    ∙ sym bit
    ∙ was_so is_ready ready)
