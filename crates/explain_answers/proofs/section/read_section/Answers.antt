use Rattle.std.proofs.Common.{◌≡◌, ◌+◌, arith, refl, sym, ap, ◌∙◌}
use Rattle.system_text.proofs.Sections.{lines_of-nothing, section_first, section_next, section_open, section_done, section_at_end, counted_first, counted_next, line_in_text, parts_of, parts_from, within_text}
use Rattle.explain_answers.proofs.section.read_section.Goals as goal

pub returns-in_default-clause-section : goal.returns-in_default-clause-section
returns-in_default-clause-section c = sym (section_at_end _ (lines_of-nothing _ (c.in_default.ensures.end.0 refl)))

pub loop-line-init : goal.loop-line-init
loop-line-init c = record {
  same_text = c.in-Some.ensures.same_text ∙ c.requires;
  so_far =
      section_first c.args.text.now c.in-Some.first c.next_line.new.self.at _ _
      (line_in_text c.args.text.now c.args.lines.now.text c.in-Some.first _ _ c.requires c.in-Some.ensures.line)
      (parts_from c.args.text.now c.in-Some.first c.args.lines.now.at c.next_line.new.self.at c.in-Some.ensures.begins
      (parts_of c.args.text.now c.args.lines.now.text c.in-Some.first c.args.lines.now.at c.next_line.new.self.at c.requires c.in-Some.ensures.part))
      c.in-Some.ensures.ordered c.in-Some.ensures.passed
      (within_text c.args.text.now c.args.lines.now.text c.next_line.new.self.at c.requires c.in-Some.ensures.within);
  counted = counted_first c.args.text.now c.args.lines.now.number c.in-Some.first c.in-Some.ensures.numbered;
  numbered = c.in-Some.ensures.counted;
  onward = omega (arith, c.in-Some.ensures.progress);
}

pub returns-in_default-next_line-clause-section : goal.returns-in_default-next_line-clause-section
returns-in_default-next_line-clause-section c =
    sym (section_open _ _ _ _ _ _ c.loop-line.invariant.so_far (sym c.is_end.ensures ∙ c.loop-line-test.true) (lines_of-nothing _ (c.in_default-next_line.ensures.end.0 refl)))

pub loop-line-preserved : goal.loop-line-preserved
loop-line-preserved c =
    let text = c.args.text.now in
    let other = c.loop-line.lines.text in
    let next = c.in-Some-next_line.next in
    let at = c.next_line-in-loop-line.new.self.at in
    let number : next.number ≡ c.loop-line.line.number + 1 = c.in-Some-next_line.ensures.numbered ∙ ap (λ n. n + 1) c.loop-line.invariant.numbered in
    record {
      same_text = c.in-Some-next_line.ensures.same_text ∙ c.loop-line.invariant.same_text;
      so_far =
          section_next text c.in-Some.first.from c.loop-line.line next c.loop-line.lines.at at _ _ _ c.loop-line.invariant.so_far
          (sym c.is_end.ensures ∙ c.loop-line-test.true)
          (line_in_text text other next _ _ c.loop-line.invariant.same_text c.in-Some-next_line.ensures.line)
          c.in-Some-next_line.ensures.begins
          (parts_of text other next c.loop-line.lines.at at c.loop-line.invariant.same_text c.in-Some-next_line.ensures.part)
          c.in-Some-next_line.ensures.ordered c.in-Some-next_line.ensures.passed
          (within_text text other at c.loop-line.invariant.same_text c.in-Some-next_line.ensures.within);
      counted = counted_next text c.args.lines.now.number c.in-Some.first.from c.loop-line.line next c.loop-line.lines.at _ _ c.loop-line.invariant.so_far c.loop-line.invariant.counted c.in-Some-next_line.ensures.begins number;
      numbered = c.in-Some-next_line.ensures.counted;
      onward = omega (arith, c.in-Some-next_line.ensures.progress, c.loop-line.invariant.onward);
    }

pub returns-clause-section : goal.returns-clause-section
returns-clause-section c = sym (section_done _ _ _ _ _ _ c.loop-line.invariant.so_far (sym c.is_end.ensures ∙ c.loop-line-test.false))
