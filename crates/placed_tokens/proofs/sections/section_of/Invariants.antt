use Rattle.std.proofs.Common.{◌≡◌, ◌≤◌, ◌-◌, length, take}
use Rattle.xs_text.specs.Lines.{lines_of, bytes_left}
use Rattle.explain_model.specs.Sections.{section_after_lines, section_of}
use Rattle.placed_tokens.proofs.sections.section_of.Given as goal

abbrev pub invariant-loop-line : goal.invariant-loop-line
invariant-loop-line l = record {
  same_text : l.lines.text ≡ l.source;
  counted : l.lines.number ≤ l.count;
  section : section_after_lines l.section (take (l.count - l.lines.number) (lines_of (bytes_left l.lines))) ≡ section_of (take l.count (lines_of l.source));
}

abbrev pub decreases-loop-line : goal.decreases-loop-line
decreases-loop-line l = length l.source - l.lines.at
