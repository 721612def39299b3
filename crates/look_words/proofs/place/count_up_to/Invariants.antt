use Rattle.std.proofs.Common.{◌-◌, ◌≡◌, ◌≤◌, true, false, length, take, drop}
use Rattle.std.specs.List.{AllByRecursion}
use Rattle.xs_instructions.specs.Image.{Symbol, AreInOrder}
use Rattle.look_model.specs.Places.{is_up_to}
use Rattle.look_words.proofs.place.count_up_to.Given as goal

abbrev pub invariant-loop-low : goal.invariant-loop-low
invariant-loop-low l = record {
  within : l.high ≤ length l.image.symbols;
  below : l.low ≤ l.high;
  order : AreInOrder l.image.symbols;
  front : AllByRecursion (λ (s : Symbol). is_up_to l.pc s ≡ true) (take l.low l.image.symbols);
  rest : AllByRecursion (λ (s : Symbol). is_up_to l.pc s ≡ false) (drop l.high l.image.symbols);
}

abbrev pub decreases-loop-low : goal.decreases-loop-low
decreases-loop-low l = l.high - l.low
