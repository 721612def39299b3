use Rattle.std.proofs.Common.{◌≡◌, ℕ, ◌+◌, ◌-◌, true, false, Some, List, take, refl, sym, ap, ◌∙◌, arith}
use Rattle.xs_text.specs.Lines.{lines_of, bytes_left, line_bytes}
use Rattle.explain_frame_model.specs.Script.{gives, first_giving, slot_pin_of}
use Rattle.explain_script_text.proofs.FirstLines.{giving-found, giving-next, giving-all, none-left}
use Rattle.explain_script_text.proofs.before.first_giving.Goals as goal

pub returns-then-gives : goal.returns-then-gives
returns-then-gives c =
    let old = c.loop-line.lines in
    let line = c.in-Some.line in
    let place : c.args.first + (line.number - 1) ≡ c.args.first + old.number = omega (arith, c.in-Some.ensures.numbered) in
    let is : gives c.args.given (slot_pin_of (line_bytes old.text line)) ≡ true =
    ap (λ (t : List ℕ). gives c.args.given (slot_pin_of (line_bytes t line))) c.loop-line.invariant.same_text ∙ (sym c.gives.ensures ∙ c.if-gives.true) in
    ap (λ n. Some n) place
    ∙ (sym (giving-found c.args.given c.args.first c.args.count old.number (lines_of (bytes_left old)) (line_bytes old.text line) (lines_of (bytes_left c.next_line.new.self)) c.in-Some.ensures.line (omega (arith, c.if-line-count.false, c.in-Some.ensures.numbered)) is)
    ∙ c.loop-line.invariant.found)

pub loop-line-preserved : goal.loop-line-preserved
loop-line-preserved c =
    let old = c.loop-line.lines in
    let new = c.next_line.new.self in
    let line = c.in-Some.line in
    let count : new.number ≡ old.number + 1 = c.in-Some.ensures.counted ∙ c.in-Some.ensures.numbered in
    let is : gives c.args.given (slot_pin_of (line_bytes old.text line)) ≡ false =
    ap (λ (t : List ℕ). gives c.args.given (slot_pin_of (line_bytes t line))) c.loop-line.invariant.same_text ∙ (sym c.gives.ensures ∙ c.if-gives.false) in
    record {
      same_text = c.in-Some.ensures.same_text ∙ c.loop-line.invariant.same_text;
      numbered = omega (arith, count, c.in-Some.ensures.progress, c.loop-line.invariant.numbered);
      counted = omega (arith, c.if-line-count.false, c.in-Some.ensures.counted);
      found = ap (λ n. first_giving c.args.given (c.args.first + n) (take (c.args.count - n) (lines_of (bytes_left new)))) count
          ∙ (giving-next c.args.given c.args.first c.args.count old.number (lines_of (bytes_left old)) (line_bytes old.text line) (lines_of (bytes_left new)) c.in-Some.ensures.line (omega (arith, c.if-line-count.false, c.in-Some.ensures.numbered)) is
          ∙ c.loop-line.invariant.found);
    }

pub returns : goal.returns
returns c = sym (giving-all _ _ _ _ (none-left (bytes_left c.loop-line.lines) (c.in_default.ensures.end.0 refl))) ∙ c.loop-line.invariant.found
