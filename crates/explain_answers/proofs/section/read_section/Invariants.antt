use Rattle.std.proofs.Common.{◌≡◌, ◌≤◌, ◌-◌, length}
use Rattle.xs_text.specs.Lines.{lines_of, bytes_left}
use Rattle.system_text.specs.Sections.{section_of}
use Rattle.system_text.proofs.Sections.{SectionSoFar, IsCounted}
use Rattle.explain_answers.proofs.section.read_section.Given as goal

abbrev pub invariant-loop-line : goal.invariant-loop-line
invariant-loop-line l = record {
  same_text : l.lines.text ≡ l.text;
  so_far : SectionSoFar l.text l.first.from l.line l.lines.at (lines_of (bytes_left l.lines)) (section_of (lines_of (bytes_left l.fn.lines)));
  counted : IsCounted l.text l.fn.lines.number l.first.from l.line;
  numbered : l.lines.number ≡ l.line.number;
  onward : l.fn.lines.at ≤ l.lines.at;
}

abbrev pub decreases-loop-line : goal.decreases-loop-line
decreases-loop-line l = length l.text - l.lines.at
