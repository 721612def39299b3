use Rattle.std.proofs.Common.{sym, ◌∙◌}
use Rattle.vcd_writer.proofs.ValuesRead.{leading, not-digits, too-long}
use Rattle.vcd_writer.proofs.line_forms.binary_in.Goals as goal
use Rattle.vcd_writer.proofs.line_forms.binary_in.Goals.{then-has_leading_zero-via-then-has_leading_zero}
use Rattle.vcd_writer.proofs.line_forms.binary_in.Goals.{then-has_leading_zero-via-else-has_leading_zero+then-digits-gt-MOST_BINARY_DIGITS}
use Rattle.vcd_writer.proofs.line_forms.binary_in.Goals.{then-has_leading_zero-via-else-has_leading_zero+else-digits-gt-MOST_BINARY_DIGITS+then-not-is_binary}

pub returns-then-has_leading_zero : goal.returns-then-has_leading_zero
returns-then-has_leading_zero c =
    let width = c.args.width in
    let digits = c.args.digits.now in
    elim c.then-has_leading_zero.branch [
      | then-has_leading_zero-via-then-has_leading_zero w ↦ sym (leading width digits (sym c.has_leading_zero.ensures.value ∙ w.if-has_leading_zero.true))
      | then-has_leading_zero-via-else-has_leading_zero+then-digits-gt-MOST_BINARY_DIGITS w ↦ sym (too-long width digits c.requires w.if-digits-gt-MOST_BINARY_DIGITS.true)
      | then-has_leading_zero-via-else-has_leading_zero+else-digits-gt-MOST_BINARY_DIGITS+then-not-is_binary w ↦ sym (not-digits width digits (sym w.is_binary.ensures ∙ w.if-not-is_binary.true))
    ]
