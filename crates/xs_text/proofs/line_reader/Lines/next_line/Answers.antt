use Rattle.std.proofs.Common.{arith}
use Rattle.xs_text.proofs.FirstLine.{IsCut, cut_is}
use Rattle.xs_text.proofs.FirstLinePart.{part_is}
use Rattle.xs_text.proofs.line_reader.Lines.next_line.Goals as goal

cut : (c : goal.After-self-2-1) → IsCut c.self.inside.text.now c.self.inside.at c.line_length-length.result c.end_length.result
cut c = cut_is _ _ _ _ (omega arith) c.line_length-length.ensures.length c.end_length.ensures

pub invariant_of-self : goal.invariant_of-self
invariant_of-self c = let h = cut c in (omega arith, omega arith, omega arith)

pub returns-clause-line : goal.returns-clause-line
returns-clause-line c = rw (← c.self.view_is) ((cut c).lines)

pub returns-clause-within : goal.returns-clause-within
returns-clause-within c = rw (← c.self.view_is) ((cut c).within)

pub returns-clause-part : goal.returns-clause-part
returns-clause-part c =
    rw (← c.self.view_is) (λ end h k. part_is _ _ _ _ end (omega arith) c.if-self.false c.line_length-length.ensures.length c.end_length.ensures h)
