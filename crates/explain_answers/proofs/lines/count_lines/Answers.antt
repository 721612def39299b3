use Rattle.std.proofs.Common.{◌≡◌, ℕ, List, length, refl, ap, arith}
use Rattle.xs_text.specs.Lines.{lines_of, bytes_left}
use Rattle.placed_tokens.proofs.Counting.{lines-few, none-left}
use Rattle.explain_answers.proofs.lines.count_lines.Goals as goal

counted : (c : goal.In_default) → c.loop-line.count ≡ length (lines_of c.args.text.now)
counted c =
    let none : length (lines_of (bytes_left c.loop-line.lines)) ≡ 0 = ap (λ (ls : List (List ℕ)). length ls) (none-left (bytes_left c.loop-line.lines) (c.in_default.ensures.end.0 refl)) in
    omega (arith, none, c.loop-line.invariant.number, c.loop-line.invariant.counted)

pub returns : goal.returns
returns c = record {
  count = counted c;
  few = omega (arith, counted c, lines-few c.args.text.now);
}
