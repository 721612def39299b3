use Rattle.std.proofs.Common.{ℕ, List, map, ap, ◌∙◌, Vec, Global}
use Rattle.issue_model.specs.Watch.{watch_of}
use Rattle.xs1_look_top.proofs.watch.watch_text.Goals as goal

pub returns : goal.returns
returns c =
    let lines = ap (map (λ (numbers : Vec ℕ Global). numbers.items)) c.deref.ensures.value ∙ c.in_ok-lines.ensures in
    record { text = c.in_ok-text.ensures.text ∙ ap (λ (lines : List (List ℕ)). watch_of c.args.plan.now lines c.args.slots c.args.addresses.now) lines }
