use Rattle.std.proofs.Common.{refl, arith}
use Rattle.issue_text.specs.NodeSlots.{line_in}
use Rattle.issue_text.proofs.Kept.{put, not-put}
use Rattle.issue_text.proofs.lines.Lines.add_line.Goals as goal

pub returns-then-self-gt-MOST_LINES-clause-lines : goal.returns-then-self-gt-MOST_LINES-clause-lines
returns-then-self-gt-MOST_LINES-clause-lines c =
    let a = c.args in
    not-put a.self.now _ (line_in a.at.now a.k a.ending) refl (omega (arith, c.if-self-gt-MOST_LINES.true)) refl

pub returns-clause-lines : goal.returns-clause-lines
returns-clause-lines c =
    let a = c.args in
    put a.self.now _ (line_in a.at.now a.k a.ending) refl (omega (arith, c.if-self-gt-MOST_LINES.false)) c.in_ok-append_line.ensures
