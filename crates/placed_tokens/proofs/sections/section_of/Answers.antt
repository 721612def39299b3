use Rattle.std.proofs.Common.{◌≡◌, ℕ, ◌+◌, ◌-◌, List, take, refl, sym, ap, ◌∙◌, arith}
use Rattle.xs_text.specs.Lines.{lines_of, bytes_left, line_bytes}
use Rattle.explain_model.specs.Sections.{section_after_line, section_after_lines}
use Rattle.placed_tokens.proofs.Counting.{section-next, section-enough, section-all, none-left}
use Rattle.placed_tokens.proofs.sections.section_of.Goals as goal

pub loop-line-preserved : goal.loop-line-preserved
loop-line-preserved c =
    let old = c.loop-line.lines in
    let new = c.next_line.new.self in
    let section = c.loop-line.section in
    let after = c.section_after_line-section.result in
    let line = c.in-Some.line in
    let count : new.number ≡ old.number + 1 = c.in-Some.ensures.counted ∙ c.in-Some.ensures.numbered in
    let is : after ≡ section_after_line section (line_bytes old.text line) =
    c.section_after_line-section.ensures ∙ ap (λ (t : List ℕ). section_after_line section (line_bytes t line)) (sym c.loop-line.invariant.same_text) in
    record {
      same_text = c.in-Some.ensures.same_text ∙ c.loop-line.invariant.same_text;
      counted = omega (arith, c.if-line-count.false, c.in-Some.ensures.counted);
      section = ap (λ n. section_after_lines after (take (c.args.count - n) (lines_of (bytes_left new)))) count
          ∙ (section-next c.args.count old.number (lines_of (bytes_left old)) (line_bytes old.text line) (lines_of (bytes_left new)) section after c.in-Some.ensures.line (omega (arith, c.if-line-count.false, c.in-Some.ensures.numbered)) is
          ∙ c.loop-line.invariant.section);
    }

pub returns-then-line-count : goal.returns-then-line-count
returns-then-line-count c =
    sym (section-enough c.args.count c.loop-line.lines.number (lines_of (bytes_left c.loop-line.lines)) c.loop-line.section (omega (arith, c.if-line-count.true, c.in-Some.ensures.numbered)))
    ∙ c.loop-line.invariant.section

pub returns : goal.returns
returns c = sym (section-all _ _ _ (none-left (bytes_left c.loop-line.lines) (c.in_default.ensures.end.0 refl))) ∙ c.loop-line.invariant.section
