use Rattle.std.proofs.Common.{◌≡◌, ℕ, ◌+◌, ◌-◌, List, take, refl, sym, ap, ◌∙◌, arith}
use Rattle.xs_text.specs.Lines.{lines_of, bytes_left, line_bytes}
use Rattle.explain_frame_model.specs.Script.{slot_line, last_slot, slot_pin_of}
use Rattle.explain_script_text.proofs.FirstLines.{slot-next, slot-all, none-left}
use Rattle.explain_script_text.proofs.before.last_slot.Goals as goal

pub loop-line-preserved : goal.loop-line-preserved
loop-line-preserved c =
    let old = c.loop-line.lines in
    let new = c.next_line.new.self in
    let before = c.loop-line.before in
    let after = c.slot_line-before.result in
    let line = c.in-Some.line in
    let count : new.number ≡ old.number + 1 = c.in-Some.ensures.counted ∙ c.in-Some.ensures.numbered in
    let place : c.args.first + (line.number - 1) ≡ c.args.first + old.number = omega (arith, c.in-Some.ensures.numbered) in
    let is : after ≡ slot_line (c.args.first + old.number) (slot_pin_of (line_bytes old.text line)) before =
    c.slot_line-before.ensures
    ∙ (ap (λ n. slot_line n (slot_pin_of (line_bytes c.args.script.now line)) before) place
    ∙ ap (λ (t : List ℕ). slot_line (c.args.first + old.number) (slot_pin_of (line_bytes t line)) before) (sym c.loop-line.invariant.same_text)) in
    record {
      same_text = c.in-Some.ensures.same_text ∙ c.loop-line.invariant.same_text;
      numbered = omega (arith, count, c.in-Some.ensures.progress, c.loop-line.invariant.numbered);
      counted = omega (arith, c.if-line-count.false, c.in-Some.ensures.counted);
      slot = ap (λ n. last_slot (c.args.first + n) after (take (c.args.count - n) (lines_of (bytes_left new)))) count
          ∙ (slot-next c.args.first c.args.count old.number (lines_of (bytes_left old)) (line_bytes old.text line) (lines_of (bytes_left new)) before after c.in-Some.ensures.line (omega (arith, c.if-line-count.false, c.in-Some.ensures.numbered)) is
          ∙ c.loop-line.invariant.slot);
    }

pub returns : goal.returns
returns c = sym (slot-all _ _ _ _ (none-left (bytes_left c.loop-line.lines) (c.in_default.ensures.end.0 refl))) ∙ c.loop-line.invariant.slot
