use Rattle.std.proofs.Common.{◌++◌, ◌∙◌, ap}
use Rattle.std.specs.Prelude.{codes, decimal}
use Rattle.look_model.specs.Network.{held_text}
use Rattle.look_model.specs.Resources.{chan_name}
use Rattle.look_words.proofs.Appended.{behind}
use Rattle.state_text.proofs.network.append_held_chan.Goals as goal

pub returns : goal.returns
returns c =
    let out = c.args.out.now in
    let held = held_text c.args.held in
    let name = chan_name c.args.node.now.id c.args.c in
    let number = decimal c.from.result in
    c.in_ok-append_held.ensures
    ∙ behind c.append-3.new.self c.append_chan_name.new.out (codes ": ") held c.in_ok-append-3.ensures.ok
    ∙ behind c.append_chan_name.new.out c.append-2.new.self name (codes ": " ++ held) c.in_ok-append_chan_name.ensures
    ∙ behind c.append-2.new.self c.append_decimal.new.out (codes " ") (name ++ (codes ": " ++ held)) c.in_ok-append-2.ensures.ok
    ∙ behind c.append_decimal.new.out c.append.new.self number (codes " " ++ (name ++ (codes ": " ++ held))) c.in_ok-append_decimal.ensures.ok
    ∙ behind c.append.new.self out (codes "n") (number ++ (codes " " ++ (name ++ (codes ": " ++ held)))) c.in_ok-append.ensures.ok
    ∙ ap (λ n. out ++ (codes "n" ++ (decimal n ++ (codes " " ++ (name ++ (codes ": " ++ held)))))) c.from.ensures
