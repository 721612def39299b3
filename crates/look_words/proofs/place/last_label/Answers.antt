use Rattle.std.proofs.Common.{◌≡◌, suc, ◌-◌, true, false, take, drop, sym, ◌∙◌, subst, arith}
use Rattle.std.specs.List.{AllByRecursion}
use Rattle.xs_instructions.specs.Image.{Symbol, symbol_of_pair}
use Rattle.look_model.specs.Places.{is_up_to}
use Rattle.look_words.proofs.LastLabel.{none-up, last-up}
use Rattle.look_words.proofs.place.last_label.Goals as goal

pub returns-then-count-eq0 : goal.returns-then-count-eq0
returns-then-count-eq0 c =
    let symbols = c.args.image.now.symbols in
    let none : c.count_up_to-count.result ≡ 0 = omega (arith, c.if-count-eq0.true) in
    sym (none-up c.args.pc symbols (subst (λ n. AllByRecursion (λ (s : Symbol). is_up_to c.args.pc s ≡ false) (drop n symbols)) none c.count_up_to-count.ensures.rest))

pub returns : goal.returns
returns c =
    let symbols = c.args.image.now.symbols in
    let count = c.count_up_to-count.result in
    let some : count ≡ suc (count - 1) = omega (arith, c.if-count-eq0.false) in
    let first = c.count_up_to.result in
    let before : c.saturating_sub.result ≡ (symbol_of_pair c.label-at.result).1 - 1 = c.saturating_sub.ensures in
    c.symbol.ensures.value
    ∙ last-up c.args.pc (count - 1) first (symbol_of_pair c.label-at.result) symbols c.count_up_to.ensures.order c.label-at.ensures
    (subst (λ n. AllByRecursion (λ (s : Symbol). is_up_to c.args.pc s ≡ true) (take n symbols)) some c.count_up_to-count.ensures.front)
    (subst (λ n. AllByRecursion (λ (s : Symbol). is_up_to c.args.pc s ≡ false) (drop n symbols)) some c.count_up_to-count.ensures.rest)
    (subst (λ n. AllByRecursion (λ (s : Symbol). is_up_to n s ≡ true) (take first symbols)) before c.count_up_to.ensures.front)
    (subst (λ n. AllByRecursion (λ (s : Symbol). is_up_to n s ≡ false) (drop first symbols)) before c.count_up_to.ensures.rest)
