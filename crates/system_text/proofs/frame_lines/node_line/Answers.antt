use Rattle.std.proofs.Common.{◌≡◌, length, sym, ◌∙◌, refl, arith}
use Rattle.std.proofs.lemmas.Bool.Decides.{nat_tests}
use Rattle.system_text.proofs.Forms.{node_other, node_is, node_not, told}
use Rattle.system_text.proofs.frame_lines.node_line.Goals.{in_default-via-then-words-lt3, in_default-via-else-words-lt3+else-words-lt4}
use Rattle.system_text.proofs.frame_lines.node_line.Goals as goal

pub returns-in_default : goal.returns-in_default
returns-in_default c =
    let other : length c.args.words.now ≡ 3 → ⊥ = elim c.in_default.branch [
      | in_default-via-then-words-lt3 w ↦ λ e. grind (arith, nat_tests)
      | in_default-via-else-words-lt3+else-words-lt4 w ↦ λ e. grind (arith, nat_tests)
    ] in
    node_other c.args.words.now other

pub returns-then-not-same_name : goal.returns-then-not-same_name
returns-then-not-same_name c = node_not c.args.words.now (omega arith) (omega arith) (sym c.same_name.ensures.value ∙ c.if-not-same_name.true)

pub returns-in_err-number : goal.returns-in_err-number
returns-in_err-number c =
    let is = node_is c.args.words.now (omega arith) (omega arith) (sym c.same_name.ensures.value ∙ c.if-not-same_name.false) in
    told _ _ _ c.from_residual.ensures.1 (rw (is, ← c.in_err-number.ensures) refl)

pub returns-in_err-id : goal.returns-in_err-id
returns-in_err-id c =
    let is = node_is c.args.words.now (omega arith) (omega arith) (sym c.same_name.ensures.value ∙ c.if-not-same_name.false) in
    told _ _ _ c.from_residual-in_err-id.ensures.1 (rw (is, ← c.in_ok-number.ensures, ← c.in_err-id.ensures) refl)

pub returns-in_err-up_to : goal.returns-in_err-up_to
returns-in_err-up_to c =
    let is = node_is c.args.words.now (omega arith) (omega arith) (sym c.same_name.ensures.value ∙ c.if-not-same_name.false) in
    told _ _ _ c.from_residual-in_err-up_to.ensures.1 (rw (is, ← c.in_ok-number.ensures, ← c.in_ok-id.ensures, ← c.in_err-up_to.ensures.value) refl)

pub returns-in_err-up_to-2 : goal.returns-in_err-up_to-2
returns-in_err-up_to-2 c =
    let is = node_is c.args.words.now (omega arith) (omega arith) (sym c.same_name.ensures.value ∙ c.if-not-same_name.false) in
    told _ _ _ c.from_residual-in_err-up_to-2.ensures.1 (rw (is, ← c.in_ok-number.ensures, ← c.in_ok-id.ensures, ← c.in_ok-up_to.ensures.value, ← c.in_err-up_to-2.ensures.value) refl)

pub returns : goal.returns
returns c =
    let is = node_is c.args.words.now (omega arith) (omega arith) (sym c.same_name.ensures.value ∙ c.if-not-same_name.false) in
    rw (is, ← c.in_ok-number.ensures, ← c.in_ok-id.ensures, ← c.in_ok-up_to.ensures.value, ← c.in_ok-up_to-2.ensures.value) refl
