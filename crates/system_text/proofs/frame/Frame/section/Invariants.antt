use Rattle.std.proofs.Common.{◌≡◌, map, drop}
use Rattle.xs_text.specs.Lines.{lines_of}
use Rattle.system_model.specs.System.{section_lines}
use Rattle.system_text.proofs.frame.Frame.section.Given as goal

abbrev pub invariant-loop-section : goal.invariant-loop-section
invariant-loop-section l =
    section_lines (map (λ s. record { kind = s.kind; line = s.line; lines = lines_of s.text.now }) (drop l.section-index l.section-items)) l.kind ≡ section_lines l.self.sections l.kind
