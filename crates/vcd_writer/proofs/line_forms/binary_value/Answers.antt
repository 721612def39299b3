use Rattle.std.proofs.Common.{◌+◌, ◌*◌, ap, ◌∙◌, arith}
use Rattle.std.proofs.lemmas.Grind.{pow_more}
use Rattle.vcd_writer.proofs.ValuesRead.{digit-at, value-more}
use Rattle.vcd_writer.proofs.line_forms.binary_value.Goals as goal

pub loop-digit-preserved : goal.loop-digit-preserved
loop-digit-preserved c =
    let digits = c.args.digits.now in
    let i = c.loop-digit.digit-index in
    let digit = digit-at digits i c.requires.binary c.loop-digit-test.true in
    let high = digit.high in
    let more = pow_more 2 i in
    record {
      value = ap (λ n. 2 * c.loop-digit.value + n) c.from.ensures ∙ value-more digits i c.loop-digit.value c.requires.binary c.loop-digit-test.true c.loop-digit.invariant.value;
      within = omega (arith, high, more);
    }
