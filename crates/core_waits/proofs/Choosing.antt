-- A thread that is paused has a choice only where its status lets something through.
use Rattle.std.proofs.Common.{◌≡◌, ℕ, Bool, true, false, refl, ap, sym}
use Rattle.std.specs.Prelude.{◌&&◌, ◌+◌, is_some}
use Rattle.xs_model.specs.declared.thread.Thread.{Thread}
use Rattle.xs_model.specs.declared.status.TheConstants.{EEBLE, IEBLE}
use Rattle.xs_model.specs.Status.{has_bits}
use Rattle.xs_model.specs.Record.{EnabledRec}
use Rattle.xs_model.specs.Choices.{ReadyRec, choice_by}
use Rattle.xs_model.specs.Picks.{is_paused}
use Rattle.core_waits.specs.Parts.{may_choose}
use Rattle.core_waits.proofs.Bits.{no_choice}

-- a test that holds wherever the last one does makes no difference
left_out : (paused lets has : Bool) → (lets ≡ false → has ≡ false) → (paused && lets && has) ≡ (paused && has)
left_out true true has only = refl
left_out true false has only = sym (only refl)
left_out false lets has only = refl

pub lets_choice : (k : ℕ) (th : Thread) (ready : ReadyRec) (events : EnabledRec) → (may_choose th && is_some (choice_by k th.sr ready events)) ≡ (is_paused th.run && is_some (choice_by k th.sr ready events))
lets_choice k th ready events =
    left_out (is_paused th.run) (has_bits th.sr (EEBLE + IEBLE)) (is_some (choice_by k th.sr ready events)) (λ none. ap (λ choice. is_some choice) (no_choice k th.sr ready events none))
