use Rattle.std.proofs.Common.{sym, ap, ◌∙◌, refl, option_map}
use Rattle.system_text.specs.Sections.{play_from}
use Rattle.system_text.proofs.Judged.{play_ended, none_ended, section_added}
use Rattle.system_text.proofs.frame.Frame.end_play.Goals as goal

pub returns-in_default : goal.returns-in_default
returns-in_default c = sym c.self.view_is ∙ none_ended _ c.args.self.now c.self.view_is (ap (option_map play_from) c.in_default.is)

pub returns : goal.returns
returns c =
    play_ended _ c.args.self.now c.in-Some.line _ c.self.view_is (ap (option_map play_from) c.in-Some.is)
    (section_added _ c.self.inside.sections.items _ _ c.in-Some.line c.in_ok-push.ensures.items refl)
