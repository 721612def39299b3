use Rattle.std.proofs.Common.{sym, ◌∙◌, refl, arith}
use Rattle.std.proofs.lemmas.Bool.Decides.{nat_tests}
use Rattle.system_text.proofs.Forms.{link_short, link_is, link_not, no_delay, no_gap, told}
use Rattle.system_text.proofs.Lists.{suffix}
use Rattle.system_text.proofs.frame_lines.link_line.Goals as goal

pub returns-in_default : goal.returns-in_default
returns-in_default c = link_short c.args.edition c.args.words.now (grind (arith, nat_tests))

pub returns-then-not-same_name : goal.returns-then-not-same_name
returns-then-not-same_name c = link_not c.args.edition c.args.words.now (no_delay _ _ (sym c.same_name.ensures.value ∙ c.if-not-same_name.true))

pub returns-then-not-same_name-2 : goal.returns-then-not-same_name-2
returns-then-not-same_name-2 c =
    link_not c.args.edition c.args.words.now (no_gap _ _ (sym c.same_name.ensures.value ∙ c.if-not-same_name.false) (sym c.same_name-2.ensures.value ∙ c.if-not-same_name-2.true))

pub returns-in_err-a : goal.returns-in_err-a
returns-in_err-a c =
    let is = link_is c.args.edition c.args.words.now _ (suffix c.args.words.now 6) (grind (arith, nat_tests)) (sym c.same_name.ensures.value ∙ c.if-not-same_name.false) (sym c.same_name-2.ensures.value ∙ c.if-not-same_name-2.false) in
    told _ _ _ c.from_residual.ensures.1 (rw (is, ← c.in_err-a.ensures) refl)

pub returns-in_err-b : goal.returns-in_err-b
returns-in_err-b c =
    let is = link_is c.args.edition c.args.words.now _ (suffix c.args.words.now 6) (grind (arith, nat_tests)) (sym c.same_name.ensures.value ∙ c.if-not-same_name.false) (sym c.same_name-2.ensures.value ∙ c.if-not-same_name-2.false) in
    told _ _ _ c.from_residual-in_err-b.ensures.1 (rw (is, ← c.in_ok-a.ensures, ← c.in_err-b.ensures) refl)

pub returns-in_err-delay : goal.returns-in_err-delay
returns-in_err-delay c =
    let is = link_is c.args.edition c.args.words.now _ (suffix c.args.words.now 6) (grind (arith, nat_tests)) (sym c.same_name.ensures.value ∙ c.if-not-same_name.false) (sym c.same_name-2.ensures.value ∙ c.if-not-same_name-2.false) in
    told _ _ _ c.from_residual-in_err-delay.ensures.1 (rw (is, ← c.in_ok-a.ensures, ← c.in_ok-b.ensures, ← c.in_err-delay.ensures) refl)

pub returns-in_err-gap : goal.returns-in_err-gap
returns-in_err-gap c =
    let is = link_is c.args.edition c.args.words.now _ (suffix c.args.words.now 6) (grind (arith, nat_tests)) (sym c.same_name.ensures.value ∙ c.if-not-same_name.false) (sym c.same_name-2.ensures.value ∙ c.if-not-same_name-2.false) in
    told _ _ _ c.from_residual-in_err-gap.ensures.1 (rw (is, ← c.in_ok-a.ensures, ← c.in_ok-b.ensures, ← c.in_ok-delay.ensures, ← c.in_err-gap.ensures) refl)

pub returns-in_err-net : goal.returns-in_err-net
returns-in_err-net c =
    let is = link_is c.args.edition c.args.words.now _ (suffix c.args.words.now 6) (grind (arith, nat_tests)) (sym c.same_name.ensures.value ∙ c.if-not-same_name.false) (sym c.same_name-2.ensures.value ∙ c.if-not-same_name-2.false) in
    told _ _ _ c.from_residual-in_err-net.ensures.1 (rw (is, ← c.in_ok-a.ensures, ← c.in_ok-b.ensures, ← c.in_ok-delay.ensures, ← c.in_ok-gap.ensures, ← c.in_err-net.ensures) refl)

pub returns-in_err-end_in_range : goal.returns-in_err-end_in_range
returns-in_err-end_in_range c =
    let is = link_is c.args.edition c.args.words.now _ (suffix c.args.words.now 6) (grind (arith, nat_tests)) (sym c.same_name.ensures.value ∙ c.if-not-same_name.false) (sym c.same_name-2.ensures.value ∙ c.if-not-same_name-2.false) in
    told _ _ _ c.from_residual-in_err-end_in_range.ensures.1 (rw (is, ← c.in_ok-a.ensures, ← c.in_ok-b.ensures, ← c.in_ok-delay.ensures, ← c.in_ok-gap.ensures, ← c.in_ok-net.ensures, ← c.in_err-end_in_range.ensures) refl)

pub returns-in_err-end_in_range-2 : goal.returns-in_err-end_in_range-2
returns-in_err-end_in_range-2 c =
    let is = link_is c.args.edition c.args.words.now _ (suffix c.args.words.now 6) (grind (arith, nat_tests)) (sym c.same_name.ensures.value ∙ c.if-not-same_name.false) (sym c.same_name-2.ensures.value ∙ c.if-not-same_name-2.false) in
    told _ _ _ c.from_residual-in_err-end_in_range-2.ensures.1 (rw (is, ← c.in_ok-a.ensures, ← c.in_ok-b.ensures, ← c.in_ok-delay.ensures, ← c.in_ok-gap.ensures, ← c.in_ok-net.ensures, ← c.in_ok-end_in_range.ensures, ← c.in_err-end_in_range-2.ensures) refl)

pub returns-in_err-between : goal.returns-in_err-between
returns-in_err-between c =
    let is = link_is c.args.edition c.args.words.now _ (suffix c.args.words.now 6) (grind (arith, nat_tests)) (sym c.same_name.ensures.value ∙ c.if-not-same_name.false) (sym c.same_name-2.ensures.value ∙ c.if-not-same_name-2.false) in
    told _ _ _ c.from_residual-in_err-between.ensures.1 (rw (is, ← c.in_ok-a.ensures, ← c.in_ok-b.ensures, ← c.in_ok-delay.ensures, ← c.in_ok-gap.ensures, ← c.in_ok-net.ensures, ← c.in_ok-end_in_range.ensures, ← c.in_ok-end_in_range-2.ensures, ← c.in_err-between.ensures) refl)

pub returns-in_err-between-2 : goal.returns-in_err-between-2
returns-in_err-between-2 c =
    let is = link_is c.args.edition c.args.words.now _ (suffix c.args.words.now 6) (grind (arith, nat_tests)) (sym c.same_name.ensures.value ∙ c.if-not-same_name.false) (sym c.same_name-2.ensures.value ∙ c.if-not-same_name-2.false) in
    told _ _ _ c.from_residual-in_err-between-2.ensures.1 (rw (is, ← c.in_ok-a.ensures, ← c.in_ok-b.ensures, ← c.in_ok-delay.ensures, ← c.in_ok-gap.ensures, ← c.in_ok-net.ensures, ← c.in_ok-end_in_range.ensures, ← c.in_ok-end_in_range-2.ensures, ← c.in_ok-between.ensures, ← c.in_err-between-2.ensures) refl)

pub returns-in_err-up_to : goal.returns-in_err-up_to
returns-in_err-up_to c =
    let is = link_is c.args.edition c.args.words.now _ (suffix c.args.words.now 6) (grind (arith, nat_tests)) (sym c.same_name.ensures.value ∙ c.if-not-same_name.false) (sym c.same_name-2.ensures.value ∙ c.if-not-same_name-2.false) in
    told _ _ _ c.from_residual-in_err-up_to.ensures.1 (rw (is, ← c.in_ok-a.ensures, ← c.in_ok-b.ensures, ← c.in_ok-delay.ensures, ← c.in_ok-gap.ensures, ← c.in_ok-net.ensures, ← c.in_ok-end_in_range.ensures, ← c.in_ok-end_in_range-2.ensures, ← c.in_ok-between.ensures, ← c.in_ok-between-2.ensures, ← c.in_err-up_to.ensures.value) refl)

pub returns : goal.returns
returns c =
    let is = link_is c.args.edition c.args.words.now _ (suffix c.args.words.now 6) (grind (arith, nat_tests)) (sym c.same_name.ensures.value ∙ c.if-not-same_name.false) (sym c.same_name-2.ensures.value ∙ c.if-not-same_name-2.false) in
    rw (is, ← c.in_ok-a.ensures, ← c.in_ok-b.ensures, ← c.in_ok-delay.ensures, ← c.in_ok-gap.ensures, ← c.in_ok-net.ensures, ← c.in_ok-end_in_range.ensures, ← c.in_ok-end_in_range-2.ensures, ← c.in_ok-between.ensures, ← c.in_ok-between-2.ensures, ← c.in_ok-up_to.ensures.value) refl
