use Rattle.std.proofs.Common.{◌++◌, ap, ◌∙◌}
use Rattle.std.specs.Prelude.{codes, decimal}
use Rattle.std.proofs.lemmas.Result.{on_ok_weaker}
use Rattle.vcd_writer.proofs.Texts.{three}
use Rattle.vcd_writer.proofs.named_lines.append_scope_line.Goals as goal

pub returns : goal.returns
returns c =
    let digits = c.in_ok-append_decimal.ensures.ok ∙ ap (λ n. c.append.new.self ++ decimal n) c.from.ensures in
    on_ok_weaker c.append-2.result
    (three c.args.out.now (codes "$scope module n") (decimal c.args.number) (codes " $end") c.append.new.self c.append_decimal.new.out c.append-2.new.self c.in_ok-append.ensures.ok digits)
    c.append-2.ensures.ok
