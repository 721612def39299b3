use Rattle.std.proofs.Common.{◌++◌, ◌∙◌}
use Rattle.std.specs.Prelude.{codes}
use Rattle.trace_model.specs.EventLines.{hex_word}
use Rattle.load_maker.proofs.Appended.{behind}
use Rattle.load_maker.proofs.lines.append_data_text.Goals as goal

pub returns : goal.returns
returns c =
    let destination = hex_word c.args.destination in
    let first = hex_word c.args.first in
    let others = codes ", 200, 1664525, 1013904223" in
    let words = destination ++ (codes ", " ++ (first ++ others)) in
    c.in_ok-append-3.ensures.ok
    ∙ (behind c.append_hex_word-2.new.out c.append-2.new.self first others c.in_ok-append_hex_word-2.ensures.ok
    ∙ (behind c.append-2.new.self c.append_hex_word.new.out (codes ", ") (first ++ others) c.in_ok-append-2.ensures.ok
    ∙ (behind c.append_hex_word.new.out c.append.new.self destination (codes ", " ++ (first ++ others)) c.in_ok-append_hex_word.ensures.ok
    ∙ behind c.append.new.self c.args.out.now (codes "  .word ") words c.in_ok-append.ensures.ok)))
