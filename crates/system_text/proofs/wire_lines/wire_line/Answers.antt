use Rattle.std.proofs.Common.{◌≡◌, length, sym, ◌∙◌, refl, arith}
use Rattle.std.proofs.lemmas.Bool.Decides.{nat_tests}
use Rattle.system_text.proofs.Forms.{told}
use Rattle.system_text.proofs.WireForms.{wire_is, wire_other, wire_early, wire_no_delay}
use Rattle.system_text.proofs.wire_lines.wire_line.Goals.{in_default-via-then-words-lt4, in_default-via-else-words-lt4+else-words-lt5}
use Rattle.system_text.proofs.wire_lines.wire_line.Goals as goal

pub returns-in_default : goal.returns-in_default
returns-in_default c =
    let other : length c.args.words.now ≡ 4 → ⊥ = elim c.in_default.branch [
      | in_default-via-then-words-lt4 w ↦ λ e. grind (arith, nat_tests)
      | in_default-via-else-words-lt4+else-words-lt5 w ↦ λ e. grind (arith, nat_tests)
    ] in
    wire_other c.args.edition c.args.words.now other

pub returns-then-edition-ne2 : goal.returns-then-edition-ne2
returns-then-edition-ne2 c = wire_early c.args.edition c.args.words.now c.if-edition-ne2.true

pub returns-then-not-same_name : goal.returns-then-not-same_name
returns-then-not-same_name c = wire_no_delay c.args.edition c.args.words.now (sym c.same_name.ensures.value ∙ c.if-not-same_name.true)

pub returns-in_err-a : goal.returns-in_err-a
returns-in_err-a c =
    let is = wire_is c.args.edition c.args.words.now (omega arith) (omega arith) c.if-edition-ne2.false (sym c.same_name.ensures.value ∙ c.if-not-same_name.false) in
    told _ _ _ c.from_residual.ensures.1 (rw (is, ← c.in_err-a.ensures) refl)

pub returns-in_err-b : goal.returns-in_err-b
returns-in_err-b c =
    let is = wire_is c.args.edition c.args.words.now (omega arith) (omega arith) c.if-edition-ne2.false (sym c.same_name.ensures.value ∙ c.if-not-same_name.false) in
    told _ _ _ c.from_residual-in_err-b.ensures.1 (rw (is, ← c.in_ok-a.ensures, ← c.in_err-b.ensures) refl)

pub returns-in_err-delay : goal.returns-in_err-delay
returns-in_err-delay c =
    let is = wire_is c.args.edition c.args.words.now (omega arith) (omega arith) c.if-edition-ne2.false (sym c.same_name.ensures.value ∙ c.if-not-same_name.false) in
    told _ _ _ c.from_residual-in_err-delay.ensures.1 (rw (is, ← c.in_ok-a.ensures, ← c.in_ok-b.ensures, ← c.in_err-delay.ensures) refl)

pub returns-in_err-pin_in_range : goal.returns-in_err-pin_in_range
returns-in_err-pin_in_range c =
    let is = wire_is c.args.edition c.args.words.now (omega arith) (omega arith) c.if-edition-ne2.false (sym c.same_name.ensures.value ∙ c.if-not-same_name.false) in
    told _ _ _ c.from_residual-in_err-pin_in_range.ensures.1 (rw (is, ← c.in_ok-a.ensures, ← c.in_ok-b.ensures, ← c.in_ok-delay.ensures, ← c.in_err-pin_in_range.ensures) refl)

pub returns-in_err-pin_in_range-2 : goal.returns-in_err-pin_in_range-2
returns-in_err-pin_in_range-2 c =
    let is = wire_is c.args.edition c.args.words.now (omega arith) (omega arith) c.if-edition-ne2.false (sym c.same_name.ensures.value ∙ c.if-not-same_name.false) in
    told _ _ _ c.from_residual-in_err-pin_in_range-2.ensures.1 (rw (is, ← c.in_ok-a.ensures, ← c.in_ok-b.ensures, ← c.in_ok-delay.ensures, ← c.in_ok-pin_in_range.ensures, ← c.in_err-pin_in_range-2.ensures) refl)

pub returns-in_err-between : goal.returns-in_err-between
returns-in_err-between c =
    let is = wire_is c.args.edition c.args.words.now (omega arith) (omega arith) c.if-edition-ne2.false (sym c.same_name.ensures.value ∙ c.if-not-same_name.false) in
    told _ _ _ c.from_residual-in_err-between.ensures.1 (rw (is, ← c.in_ok-a.ensures, ← c.in_ok-b.ensures, ← c.in_ok-delay.ensures, ← c.in_ok-pin_in_range.ensures, ← c.in_ok-pin_in_range-2.ensures, ← c.in_err-between.ensures) refl)

pub returns : goal.returns
returns c =
    let is = wire_is c.args.edition c.args.words.now (omega arith) (omega arith) c.if-edition-ne2.false (sym c.same_name.ensures.value ∙ c.if-not-same_name.false) in
    rw (is, ← c.in_ok-a.ensures, ← c.in_ok-b.ensures, ← c.in_ok-delay.ensures, ← c.in_ok-pin_in_range.ensures, ← c.in_ok-pin_in_range-2.ensures, ← c.in_ok-between.ensures) refl
