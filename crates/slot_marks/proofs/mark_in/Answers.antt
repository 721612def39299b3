use Rattle.std.proofs.Common.{ℕ, ◌+◌, ◌&&◌, Option, None, IfSome, List, sym, ap, ◌∙◌, subst}
use Rattle.std.specs.Prelude.{slice_index_or}
use Rattle.xs_model.specs.declared.thread.Thread.{Thread}
use Rattle.xs_model.specs.Record.{CoreRec}
use Rattle.xs_model.specs.Picks.{is_rested}
use Rattle.sys_plan.specs.Plan.{gaps_of}
use Rattle.step_model.specs.Start.{fixed_of}
use Rattle.step_laws.proofs.Phases.{before_issue_keeps}
use Rattle.serial_model.specs.Serial.{coming_at, serial}
use Rattle.issue_model.specs.Issues.{thread_in}
use Rattle.issue_model.specs.Seen.{node_after, seen_at}
use Rattle.told_run.specs.Slots.{IsBefore, IsToldIn}
use Rattle.chart_model.specs.Marks.{mark_of}
use Rattle.slot_marks.proofs.mark_in.Goals as goal

pub returns : goal.returns
returns c = λ node here.
    let a = c.args in
    let plan = a.run.now.plan in
    let rec = node_after plan a.slot a.n in
    let seen = seen_at plan a.slot a.n node in
    let coming = coming_at plan (serial plan a.slot).histories a.slot a.n in
    let before = subst (λ (slot : Option ℕ). IfSome slot (λ s. IsBefore (node_after plan s a.n).core c.before-before.result.now)) c.requires.told c.before-before.ensures.kept in
    let told = subst (λ (slot : Option ℕ). IfSome slot (λ s. IsToldIn plan s a.n c.told-told.result.now)) c.requires.told c.told-told.ensures.told node here in
    let keeps = before_issue_keeps (fixed_of node (gaps_of plan a.n)) rec a.slot coming.arrivals coming.pins in
    let last = c.last_of.ensures ∙ ap (λ last. slice_index_or last a.k None) (before.last ∙ sym keeps.1) in
    let may = c.may_issue-may.ensures ∙ (λ i. told.able a.k c.requires.thread i && is_rested (last i) a.slot) in
    let was = c.run_before.ensures ∙ ap (λ (threads : List Thread). (thread_in threads a.k).run) before.threads in
    let core = c.core.ensures.stands.stands.core ∙ ap (λ (now : ℕ). (node_after plan now a.n).core) c.requires.passed in
    let is = c.run_of-is.ensures.value ∙ ap (λ (core : CoreRec). (thread_in core.threads a.k).run) core in
    c.mark_of.ensures ∙ (λ i. mark_of a.k (may i) (was i) (is i) (told.traps i) (told.issue i))
