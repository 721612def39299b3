use Rattle.std.proofs.Common.{◌≡◌, ℕ, true, ◌+◌, ◌-◌, ◌/◌, ◌%◌, ◌<◌, Some, List, [], ◌∷◌, ◌++◌, length, take, drop, sym, ap, ◌∙◌, arith}
use Rattle.xs_base.specs.Ids.{port_width}
use Rattle.wave_model.specs.Waves.{WaveRec}
use Rattle.wave_model.specs.Reads.{Changes, changed, may_change, pin_of_code, value_in_text}
use Rattle.vcd_writer.proofs.ChangeRead.{change-read}
use Rattle.vcd_writer.proofs.place.after_change.Goals as goal

pub returns-clause-ok : goal.returns-clause-ok
returns-clause-ok c =
    let wave = c.args.wave.now in
    let line = c.args.line.now in
    let pin = c.in-Some.pin in
    let value = c.in-Some-value_in_text.value in
    let split = c.saturating_sub.ensures in
    let code : pin_of_code (drop (length line - 2) line) ≡ Some pin =
    ap (λ n. pin_of_code (drop n line)) (sym split) ∙ ap (λ (l : List ℕ). pin_of_code l) (sym c.split_at.ensures.back) ∙ sym c.in-Some.ensures in
    let text : value_in_text (port_width (pin % 29)) (take (length line - 2) line) ≡ Some value =
    (λ i. value_in_text (sym c.port_width.ensures.value i) (take (sym split i) line))
    ∙ ap (λ (l : List ℕ). value_in_text c.port_width.result l) (sym c.split_at.ensures.front)
    ∙ sym c.in-Some-value_in_text.ensures in
    let may : may_change wave c.args.next pin ≡ true = sym c.may_change.ensures.value ∙ c.if-not-may_change.false in
    let new : changed wave pin value ≡ c.push_change.new.self =
    ap (λ s. record wave { changes = wave.changes ++ record { slot = s; node = pin / 29; port = pin % 29; value = value } ∷ [] }) (sym c.last.ensures)
    ∙ sym c.in_ok-push_change.ensures.ok in
    let within : pin < 464 = c.may_change.ensures.within c.if-not-may_change.false in
    (change-read wave c.args.next line pin value code text may ∙ ap (λ (w : WaveRec). Some (Changes w (pin + 1))) new, omega (arith, within))
