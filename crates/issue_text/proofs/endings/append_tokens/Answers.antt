use Rattle.std.proofs.Common.{◌∙◌}
use Rattle.std.specs.Prelude.{codes}
use Rattle.look_model.specs.Resources.{chan_name}
use Rattle.look_words.proofs.Appended.{behind}
use Rattle.issue_text.proofs.endings.append_tokens.Goals as goal

pub returns : goal.returns
returns c =
    c.in_ok-append_chan_name.ensures
    ∙ behind c.append.new.self c.args.out.now (codes "tokens at ") (chan_name c.args.id c.args.chan) c.in_ok-append.ensures.ok
