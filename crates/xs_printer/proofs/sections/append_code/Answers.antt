use Rattle.std.proofs.Common.{ℕ, ◌++◌, ◌≡◌, ◌+◌, ◌<◌, ◌≤◌, length, refl, sym, ap, ◌∙◌, arith}
use Rattle.std.proofs.lemmas.Result.{IfOk-equal}
use Rattle.xs_instructions.specs.Image.{data_start}
use Rattle.xs_instructions.specs.Code.{code_start, place_address}
use Rattle.source_model.specs.Canonical.{Instruction, labels_at, behind_labels, lines_text}
use Rattle.xs_printer.proofs.Pieces.{pair_more, none_left}
use Rattle.xs_printer.proofs.FirstLabels.{first_of_result, next_place_at, next_at}
use Rattle.xs_printer.proofs.Behind.{lines_behind-next, lines_behind-end, lines_more, read_same}
use Rattle.xs_printer.proofs.sections.append_code.Goals as goal

pub loop-ins-init : goal.loop-ins-init
loop-ins-init c = record {
  at = refl;
  first = record { within = omega arith; rest = sym (c.labels_stand_in_order.ensures.first_place c.args.image.now c.code-ins-items.ensures.image) };
  lines = refl;
}

pub loop-ins-preserved : goal.loop-ins-preserved
loop-ins-preserved c =
    let image = c.args.image.now in
    let p = c.loop-ins.ins-index in
    let at = c.loop-ins.at in
    let same : c.code-ins-items.result.now ≡ image.code = c.code-ins-items.ensures.value in
    let long : length c.code-ins-items.result.now ≡ length image.code = ap length same in
    let below : p < length image.code = omega arith in
    record {
      at = omega arith;
      first = c.in_ok-next.ensures.next (at + 4) (next_place_at image.symbols p at (c.labels_stand_in_order.ensures.next_place image p c.code-ins-items.ensures.image) c.loop-ins.invariant.at);
      lines = pair_more _ _ _ _ _ _ _ _ c.in_ok-next.ensures.lines c.in_ok-append_instruction.ensures
          (lines_behind-next (λ ins. Instruction ins) image.symbols 4 at (at + 4) p image.code _ below (read_same c.code-ins-items.result.now image.code p _ same below) refl) c.loop-ins.invariant.lines;
    }

at_end : (n m k at : ℕ) → at ≡ place_address k → n ≡ m → n ≤ k → k ≤ n → at ≡ place_address m
at_end n m k at e long low high = omega arith

pub returns-clause-lines : goal.returns-clause-lines
returns-clause-lines c =
    let image = c.args.image.now in
    let long : length c.code-ins-items.result.now ≡ length image.code = ap length c.code-ins-items.ensures.value in
    let at : c.loop-ins.at ≡ place_address (length image.code) = at_end _ _ _ _ c.loop-ins.invariant.at long c.loop-ins-test.false c.loop-ins.auto.ins-index-end in
    let done = none_left _ _ _ (lines_behind-end (λ ins. Instruction ins) image.symbols 4 c.loop-ins.at c.loop-ins.ins-index image.code (omega arith)) c.loop-ins.invariant.lines in
    IfOk-equal _ _ _ _ c.append_labels-2.ensures.lines
    (lines_more image.symbols _ (labels_at image.symbols c.loop-ins.at) _ _ done
    ∙ ap (λ n. c.args.out.now ++ lines_text image.symbols (behind_labels (λ ins. Instruction ins) image.symbols 4 code_start image.code ++ labels_at image.symbols n)) at)

pub returns-clause-next : goal.returns-clause-next
returns-clause-next c =
    let image = c.args.image.now in
    let long : length c.code-ins-items.result.now ≡ length image.code = ap length c.code-ins-items.ensures.value in
    let at : c.loop-ins.at ≡ place_address (length image.code) = at_end _ _ _ _ c.loop-ins.invariant.at long c.loop-ins-test.false c.loop-ins.auto.ins-index-end in
    first_of_result image.symbols c.loop-ins.at data_start _ (next_at image.symbols c.loop-ins.at _ data_start (c.labels_stand_in_order.ensures.data image c.code-ins-items.ensures.image) at) c.append_labels-2.ensures.next
