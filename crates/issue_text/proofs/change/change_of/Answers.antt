use Rattle.std.proofs.Common.{ℕ, Option, List, [], ◌∷◌, sym, ap, ◌∙◌}
use Rattle.std.specs.Prelude.{option_map}
use Rattle.std.specs.List.{find}
use Rattle.processor.specs.declared.picks.NextIssue.{NextIssue}
use Rattle.issue_model.specs.declared.Store.{Store}
use Rattle.issue_model.specs.Issues.{thread_in}
use Rattle.issue_model.specs.Watch.{is_watched, value_around, watch_line, watched_lines}
use Rattle.issue_text.specs.declared.words.Word.{Word}
use Rattle.issue_text.specs.Changes.{change_line, change_lines, watched_by}
use Rattle.issue_text.proofs.Changes.{its-was, lies-in, found-is, none-watched, one-watched}
use Rattle.issue_text.proofs.change.change_of.Goals as goal

pub returns-in_err-was-clause-lines : goal.returns-in_err-was-clause-lines
returns-in_err-was-clause-lines c = λ addresses memory is.
    let at = c.args.at.now in
    let next = c.in_ok-next.next in
    let store = c.in_ok-store.store in
    let pc = (thread_in at.before.now next.thread).pc in
    let after = c.args.core.now.core.memory in
    let was = value_around memory store.at in
    ap (change_lines at) c.from_residual-in_err-was.ensures
    ∙ none-watched (is_watched addresses store.at) was (watch_line at.node.now at.lines.now at.slot next.thread pc store was (value_around after store.at) ∷ [])
    (c.in_err-was.ensures ∙ ap (λ (words : List Word). option_map its-was (find (lies-in memory store.at) words)) is ∙ found-is memory store.at addresses)
    ∙ ap (λ (s : Option Store). watched_lines addresses at.node.now at.lines.now at.slot next.thread pc memory after s) c.in_ok-store.ensures
    ∙ ap (λ (n : Option NextIssue). watched_by addresses at c.args.told.now.traps memory after n) (sym c.in_ok-next.was)

pub returns-clause-lines : goal.returns-clause-lines
returns-clause-lines c = λ addresses memory is.
    let at = c.args.at.now in
    let next = c.in_ok-next.next in
    let store = c.in_ok-store.store in
    let pc = (thread_in at.before.now next.thread).pc in
    let after = c.args.core.now.core.memory in
    let was = value_around memory store.at in
    ap (λ (n : ℕ). change_line at (record { thread = next.thread; store = store; was = c.in_ok-was.was'; is = n }) ∷ []) c.value_around.ensures
    ∙ one-watched (is_watched addresses store.at) was c.in_ok-was.was' (λ w. watch_line at.node.now at.lines.now at.slot next.thread pc store w (value_around after store.at) ∷ [])
    (c.in_ok-was.ensures ∙ ap (λ (words : List Word). option_map its-was (find (lies-in memory store.at) words)) is ∙ found-is memory store.at addresses)
    ∙ ap (λ (s : Option Store). watched_lines addresses at.node.now at.lines.now at.slot next.thread pc memory after s) c.in_ok-store.ensures
    ∙ ap (λ (n : Option NextIssue). watched_by addresses at c.args.told.now.traps memory after n) (sym c.in_ok-next.was)
