use Rattle.std.proofs.Common.{ℕ, List, map, ap, ◌∙◌, Vec, Global}
use Rattle.profile_model.specs.Profile.{profile_of}
use Rattle.xs1_look_top.proofs.profile.profile_text.Goals as goal

pub returns : goal.returns
returns c =
    let lines = ap (map (λ (numbers : Vec ℕ Global). numbers.items)) c.deref.ensures.value ∙ c.in_ok-lines.ensures in
    record { text = c.in_ok-text.ensures.text ∙ ap (λ (lines : List (List ℕ)). profile_of c.args.plan.now lines c.args.slots) lines }
