use Rattle.std.proofs.Common.{◌++◌, ◌∙◌, ap}
use Rattle.std.specs.Prelude.{codes, decimal}
use Rattle.look_model.specs.Resources.{chan_name}
use Rattle.look_words.proofs.Appended.{behind}
use Rattle.issue_text.proofs.endings.append_room.Goals as goal

pub returns : goal.returns
returns c =
    let name = chan_name c.args.id c.args.chan in
    let count = decimal c.from.result in
    c.in_ok-append_chan_name.ensures
    ∙ behind c.append-2.new.self c.append_decimal.new.out (codes " at ") name c.in_ok-append-2.ensures.ok
    ∙ behind c.append_decimal.new.out c.append.new.self count (codes " at " ++ name) c.in_ok-append_decimal.ensures.ok
    ∙ behind c.append.new.self c.args.out.now (codes "room for ") (count ++ (codes " at " ++ name)) c.in_ok-append.ensures.ok
    ∙ ap (λ n. c.args.out.now ++ (codes "room for " ++ (decimal n ++ (codes " at " ++ name)))) c.from.ensures
