-- A slot of a node changes memory and threads by its issue alone.
use Rattle.std.proofs.Common.{List, map, ◌++◌, ap, ◌∙◌}
use Rattle.xs_model.specs.declared.thread.Thread.{Thread}
use Rattle.xs_model.specs.Outside.{in_slot}
use Rattle.xs_model.specs.Picks.{picked}
use Rattle.step_model.specs.Step.{setting_of, before_issue, issued, node_step}
use Rattle.step_laws.proofs.Phases.{before_issue_keeps}
use Rattle.processor.specs.NextIssue.{next_issue}
use Rattle.core_step.specs.Told.{has_trap}
use Rattle.issue_model.specs.Issues.{stored_in}
use Rattle.issue_laws.specs.Followed.{with_store, MemoryIsFollowed, RegistersAreFollowed}
use Rattle.issue_laws.proofs.Traps.{before_is_quiet}
use Rattle.issue_laws.proofs.Switch.{before_has}
use Rattle.issue_laws.proofs.Issue.{issued_told, nobody_changes}

-- the memory is that before the slot, with what is told that was stored
pub memory_followed : MemoryIsFollowed
unfolding node_step
memory_followed fixed rec slot arrivals pins =
    let m = before_issue fixed rec slot arrivals pins in
    let here = setting_of fixed slot pins m.rec in
    let i = issued fixed.code here m.rec.core in
    let stored = λ (threads : List Thread). stored_in fixed.code threads i.core.threads (has_trap (map (in_slot slot) (m.happened ++ i.happened))) (next_issue m.rec.core slot) in
    issued_told fixed.code here m.rec.core m.happened (picked m.rec.core slot) (before_is_quiet fixed rec slot arrivals pins)
    ∙ ap (λ memory. with_store memory (stored m.rec.core.threads)) (before_has fixed rec slot arrivals pins)
    ∙ ap (λ threads. with_store rec.core.memory (stored threads)) (before_issue_keeps fixed rec slot arrivals pins).0

-- without an issue no thread changes
pub registers_followed : RegistersAreFollowed
unfolding node_step
registers_followed fixed rec slot arrivals pins nobody =
    let m = before_issue fixed rec slot arrivals pins in
    nobody_changes fixed.code (setting_of fixed slot pins m.rec) m.rec.core (picked m.rec.core slot) nobody ∙ (before_issue_keeps fixed rec slot arrivals pins).0
