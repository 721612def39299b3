use Rattle.std.proofs.Common.{◌≡◌, suc, ◌+◌, ◌-◌, ◌/◌, true, take, sym, ◌∙◌, subst, arith}
use Rattle.std.specs.List.{AllByRecursion}
use Rattle.xs_instructions.specs.Image.{Symbol, symbol_of_pair}
use Rattle.look_model.specs.Places.{is_up_to}
use Rattle.look_words.proofs.LastLabel.{front-up, rest-past}
use Rattle.look_words.proofs.place.count_up_to.Goals as goal

pub loop-low-preserved-then-is_up_to : goal.loop-low-preserved-then-is_up_to
loop-low-preserved-then-is_up_to c =
    let symbols = c.args.image.now.symbols in
    let middle = c.loop-low.low + (c.loop-low.high - c.loop-low.low) / 2 in
    let next : suc middle ≡ middle + 1 = omega arith in
    let front = front-up c.args.pc middle (symbol_of_pair c.label.result) symbols c.loop-low.invariant.order c.label.ensures (sym c.is_up_to.ensures ∙ c.if-is_up_to.true) in
    record {
      within = c.loop-low.invariant.within;
      below = omega (arith, c.loop-low-test.true);
      order = c.loop-low.invariant.order;
      front = subst (λ n. AllByRecursion (λ (s : Symbol). is_up_to c.args.pc s ≡ true) (take n symbols)) next front;
      rest = c.loop-low.invariant.rest;
    }

pub loop-low-preserved : goal.loop-low-preserved
loop-low-preserved c =
    let symbols = c.args.image.now.symbols in
    let middle = c.loop-low.low + (c.loop-low.high - c.loop-low.low) / 2 in
    record {
      within = omega (arith, c.loop-low-test.true, c.loop-low.invariant.within);
      below = omega arith;
      order = c.loop-low.invariant.order;
      front = c.loop-low.invariant.front;
      rest = rest-past c.args.pc middle (symbol_of_pair c.label.result) symbols c.loop-low.invariant.order c.label.ensures (sym c.is_up_to.ensures ∙ c.if-is_up_to.false);
    }
