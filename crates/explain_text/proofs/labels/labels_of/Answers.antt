use Rattle.std.proofs.Common.{◌≡◌, ℕ, ◌+◌, ◌-◌, ◌≤◌, List, length, take, refl, sym, ap, ◌∙◌, subst, arith}
use Rattle.xs_text.specs.Lines.{lines_of, bytes_left, line_bytes}
use Rattle.explain_model.specs.Labels.{note_line, note_lines}
use Rattle.placed_tokens.proofs.Counting.{none-left}
use Rattle.explain_text.proofs.Counting.{labels-next, labels-enough, labels-all}
use Rattle.explain_text.proofs.labels.labels_of.Goals as goal

pub overflow_add-first : goal.overflow_add-first
overflow_add-first c =
    let inside : c.next_line.new.self.at ≤ length c.args.source.now = subst (λ (t : List ℕ). c.next_line.new.self.at ≤ length t) c.loop-line.invariant.same_text c.in-Some.ensures.within in
    omega (arith, inside, c.requires, c.loop-line.invariant.numbered, c.in-Some.ensures.numbered, c.in-Some.ensures.progress)

pub loop-line-preserved : goal.loop-line-preserved
loop-line-preserved c =
    let old = c.loop-line.lines in
    let new = c.next_line.new.self in
    let labels = c.loop-line.labels.labels in
    let line = c.in-Some.line in
    let count : new.number ≡ old.number + 1 = c.in-Some.ensures.counted ∙ c.in-Some.ensures.numbered in
    let place : c.args.first + (line.number - 1) ≡ c.args.first + old.number = omega (arith, c.in-Some.ensures.numbered) in
    let noted : c.note_line.new.labels.labels ≡ note_line (c.args.first + old.number) (line_bytes old.text line) labels =
    c.in_ok-note_line.ensures
    ∙ (ap (λ n. note_line n (line_bytes c.args.source.now line) labels) place
    ∙ ap (λ (t : List ℕ). note_line (c.args.first + old.number) (line_bytes t line) labels) (sym c.loop-line.invariant.same_text)) in
    record {
      same_text = c.in-Some.ensures.same_text ∙ c.loop-line.invariant.same_text;
      numbered = omega (arith, count, c.in-Some.ensures.progress, c.loop-line.invariant.numbered);
      counted = omega (arith, c.if-line-count.false, c.in-Some.ensures.counted);
      labels = ap (λ n. note_lines (c.args.first + n) (take (c.args.count - n) (lines_of (bytes_left new))) c.note_line.new.labels.labels) count
          ∙ (labels-next c.args.first c.args.count old.number (lines_of (bytes_left old)) (line_bytes old.text line) (lines_of (bytes_left new)) labels c.note_line.new.labels.labels c.in-Some.ensures.line (omega (arith, c.if-line-count.false, c.in-Some.ensures.numbered)) noted
          ∙ c.loop-line.invariant.labels);
    }

pub returns-then-line-count : goal.returns-then-line-count
returns-then-line-count c =
    sym (labels-enough _ c.args.count c.loop-line.lines.number (lines_of (bytes_left c.loop-line.lines)) c.loop-line.labels.labels (omega (arith, c.if-line-count.true, c.in-Some.ensures.numbered)))
    ∙ c.loop-line.invariant.labels

pub returns : goal.returns
returns c = sym (labels-all _ _ _ _ (none-left (bytes_left c.loop-line.lines) (c.in_default.ensures.end.0 refl))) ∙ c.loop-line.invariant.labels
