use Rattle.std.proofs.Common.{◌≡◌, ℕ, ◌+◌, ◌≤◌, List, length, take, refl, sym, ap, ◌∙◌, subst, arith}
use Rattle.xs_text.specs.Lines.{lines_of, IsLineOfParts}
use Rattle.explain_frame_text.proofs.Fronts.{IsFront, front-next, front-lines, line-left, nothing-left, line-found, line-past}
use Rattle.explain_frame_text.proofs.line_at.line_at.Goals as goal

pub loop-line-preserved : goal.loop-line-preserved
loop-line-preserved c =
    let text = c.args.text.now in
    let old = c.loop-line.lines in
    let new = c.next_line.new.self in
    let line = c.in-Some.line in
    let count : new.number ≡ old.number + 1 = c.in-Some.ensures.counted ∙ c.in-Some.ensures.numbered in
    let parts : IsLineOfParts text line old.at new.at = subst (λ (t : List ℕ). IsLineOfParts t line old.at new.at) c.loop-line.invariant.same_text c.in-Some.ensures.part in
    let is = line-left text old new line c.loop-line.invariant.same_text c.in-Some.ensures.same_text c.in-Some.ensures.line in
    record {
      same_text = c.in-Some.ensures.same_text ∙ c.loop-line.invariant.same_text;
      before = omega (arith, c.if-line-number.false, c.in-Some.ensures.numbered, count, c.loop-line.invariant.before);
      front = subst (λ n. IsFront text new.at n) (sym count)
          (front-next text line old.at new.at old.number c.loop-line.invariant.front parts is (omega (arith, c.in-Some.ensures.progress)));
    }

pub returns-then-line-number-clause-line : goal.returns-then-line-number-clause-line
returns-then-line-number-clause-line c =
    let text = c.args.text.now in
    let old = c.loop-line.lines in
    let new = c.next_line.new.self in
    let line = c.in-Some.line in
    let in_text : line.to ≤ length text = subst (λ (t : List ℕ). line.to ≤ length t) c.loop-line.invariant.same_text c.in-Some.ensures.in_text in
    let within : old.at ≤ length text = omega (arith, in_text, c.in-Some.ensures.begins, c.in-Some.ensures.ordered) in
    let front : lines_of (take line.from text) ≡ take old.number (lines_of text) =
    ap (λ k. lines_of (take k text)) c.in-Some.ensures.begins ∙ front-lines text old.at old.number c.loop-line.invariant.front within in
    line-found text old.at new.at old.number c.args.number (lines_of (take line.from text)) line c.loop-line.invariant.front
    (line-left text old new line c.loop-line.invariant.same_text c.in-Some.ensures.same_text c.in-Some.ensures.line)
    (omega (arith, c.if-line-number.true, c.in-Some.ensures.numbered)) front

pub returns-clause-line : goal.returns-clause-line
returns-clause-line c =
    line-past c.args.text.now c.loop-line.lines.at c.loop-line.lines.number c.args.number c.loop-line.invariant.front
    (nothing-left c.args.text.now c.loop-line.lines c.loop-line.invariant.same_text (c.in_default.ensures.end.0 refl)) c.loop-line.invariant.before
