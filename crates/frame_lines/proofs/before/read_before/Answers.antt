use Rattle.std.proofs.Common.{◌≡◌, ℕ, ◌+◌, List, ◌++◌, refl, sym, ap, ◌∙◌}
use Rattle.xs_text.specs.Lines.{lines_of, bytes_left, line_bytes}
use Rattle.xs_text.specs.Words.{words_of_line}
use Rattle.explain_frame_model.specs.FrameBefore.{EarlierLine, put_line, lines_from, inside_after}
use Rattle.frame_lines.proofs.Earlier.{no_lines-left, lines-next, inside-next, lines-none, inside-none}
use Rattle.frame_lines.proofs.before.read_before.Goals as goal

pub loop-line-preserved : goal.loop-line-preserved
loop-line-preserved c =
    let old = c.loop-line.lines in
    let new = c.next_line.new.self in
    let line = c.in-Some.line in
    let inside = c.loop-line.inside in
    let after = c.inside_after-inside.result in
    let kept = c.loop-line.kept.items in
    let l = line_bytes old.text line in
    let count : new.number ≡ old.number + 1 = c.in-Some.ensures.counted ∙ c.in-Some.ensures.numbered in
    let put : (more : List EarlierLine) → c.keep_line.new.kept.items ++ more ≡ kept ++ put_line inside (old.number + 1) (words_of_line l) more =
    λ more.
    c.in_ok-keep_line.ensures more
    ∙ (ap (λ n. kept ++ put_line inside n (words_of_line (line_bytes c.args.text.now line)) more) c.in-Some.ensures.numbered
    ∙ ap (λ (t : List ℕ). kept ++ put_line inside (old.number + 1) (words_of_line (line_bytes t line)) more) (sym c.loop-line.invariant.same_text)) in
    let is : after ≡ inside_after inside l =
    c.inside_after-inside.ensures ∙ ap (λ (t : List ℕ). inside_after inside (line_bytes t line)) (sym c.loop-line.invariant.same_text) in
    record {
      same_text = c.in-Some.ensures.same_text ∙ c.loop-line.invariant.same_text;
      lines = ap (λ n. c.keep_line.new.kept.items ++ lines_from (n + 1) after (lines_of (bytes_left new))) count
          ∙ (lines-next kept c.keep_line.new.kept.items old.number inside after (lines_of (bytes_left old)) l (lines_of (bytes_left new)) c.in-Some.ensures.line put is
          ∙ c.loop-line.invariant.lines);
      inside = inside-next inside after (lines_of (bytes_left old)) l (lines_of (bytes_left new)) c.in-Some.ensures.line is ∙ c.loop-line.invariant.inside;
    }

pub returns-clause-lines : goal.returns-clause-lines
returns-clause-lines c =
    sym (lines-none c.loop-line.kept.items (c.loop-line.lines.number + 1) c.loop-line.inside _ (no_lines-left (bytes_left c.loop-line.lines) (c.in_default.ensures.end.0 refl)))
    ∙ c.loop-line.invariant.lines

pub returns-clause-inside : goal.returns-clause-inside
returns-clause-inside c =
    sym (inside-none c.loop-line.inside _ (no_lines-left (bytes_left c.loop-line.lines) (c.in_default.ensures.end.0 refl))) ∙ c.loop-line.invariant.inside
