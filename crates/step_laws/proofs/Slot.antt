-- A slot of a node changes threads by its issue alone.
use Rattle.std.proofs.Common.{sym, subst}
use Rattle.xs_base.specs.Numbers.{Slot}
use Rattle.xs_model.specs.declared.outside.Arrivals.{Arrivals}
use Rattle.xs_model.specs.declared.outside.PinView.{PinView}
use Rattle.xs_model.specs.Record.{NodeRec}
use Rattle.step_model.specs.Fixed.{Fixed}
use Rattle.step_model.specs.Step.{setting_of, before_issue, node_step}
use Rattle.step_laws.specs.StatusBits.{AllKnown}
use Rattle.step_laws.proofs.Issue.{issue_known}
use Rattle.step_laws.proofs.Phases.{before_issue_keeps}

pub slot_known : (fixed : Fixed) (rec : NodeRec) (slot : Slot) (arrivals : Arrivals) (pins : PinView) → AllKnown rec.core.threads → AllKnown (node_step fixed rec slot arrivals pins).rec.core.threads
unfolding node_step
slot_known fixed rec slot arrivals pins all =
    let before = before_issue fixed rec slot arrivals pins in
    issue_known fixed.code (setting_of fixed slot pins before.rec) before.rec.core (subst AllKnown (sym (before_issue_keeps fixed rec slot arrivals pins).0) all)
