use Rattle.std.proofs.Common.{sym, ap, ◌∙◌}
use Rattle.std.specs.List.{list_any}
use Rattle.system_model.specs.Frame.{has_section, is_same_kind}
use Rattle.system_text.proofs.Lists.{list_any_map}
use Rattle.system_text.proofs.frame.Frame.has_section.Goals as goal

pub returns : goal.returns
returns c =
    c.holds.ensures
    ∙ (ap (list_any (λ section. is_same_kind section.kind c.args.kind)) c.deref.ensures.value
    ∙ (sym (list_any_map (λ section. is_same_kind section.kind c.args.kind) _ c.self.inside.sections.items) ∙ ap (λ g. has_section g.sections c.args.kind) c.self.view_is))
