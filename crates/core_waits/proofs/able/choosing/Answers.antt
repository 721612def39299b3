use Rattle.std.proofs.Common.{◌≡◌, ℕ, false, List, ap, ap₂, sym, ◌∙◌}
use Rattle.std.specs.Prelude.{◌&&◌, is_some, slice_index_or}
use Rattle.xs_model.specs.declared.thread.Thread.{Thread}
use Rattle.xs_model.specs.Masks.{in_mask}
use Rattle.xs_model.specs.Threads.{fresh_thread}
use Rattle.xs_model.specs.Record.{CoreRec, EnabledRec, thread_of}
use Rattle.xs_model.specs.Choices.{choice, choice_by, ready_in}
use Rattle.xs_model.specs.Picks.{is_paused}
use Rattle.core_waits.specs.Parts.{may_choose}
use Rattle.core_waits.proofs.Bits.{in_both, in_none}
use Rattle.core_waits.proofs.Choosing.{lets_choice}
use Rattle.core_waits.proofs.able.choosing.Goals as goal

module _ (core : CoreRec) (slot : ℕ) (threads : List Thread) (events : EnabledRec) (its_threads : core.threads ≡ threads) (its_events : core.enabled ≡ events) (k : ℕ) where
  -- among those that may choose is each one that has a choice
  among : (may : ℕ) → in_mask may k ≡ may_choose (slice_index_or threads k fresh_thread) → (in_mask may k && is_some (choice core slot k)) ≡ (is_paused (thread_of core k).run && is_some (choice core slot k))
  among may its =
      ap (λ b. b && is_some (choice core slot k)) (its ∙ ap (λ ths. may_choose (slice_index_or ths k fresh_thread)) (sym its_threads))
      ∙ lets_choice k (thread_of core k) (ready_in core slot) core.enabled

  -- what the parts give a thread is what the core does
  its_choice : choice_by k (slice_index_or threads k fresh_thread).sr (ready_in core slot) events ≡ choice core slot k
  its_choice =
      ap₂ (λ (ths : List Thread) (evs : EnabledRec). choice_by k (slice_index_or ths k fresh_thread).sr (ready_in core slot) evs) (sym its_threads) (sym its_events)

pub returns-then-may-eq0 : goal.returns-then-may-eq0
returns-then-may-eq0 c = λ core slots syncs parts k below.
    let slot = c.args.slot in
    let none : in_mask c.allowing-may.result k ≡ false = ap (λ mask. in_mask mask k) c.if-may-eq0.true ∙ in_none k in
    in_none k
    ∙ sym (ap (λ b. b && is_some (choice core slot k)) none)
    ∙ among core slot c.args.threads.now c.args.events.now parts.threads parts.events k c.allowing-may.result (c.allowing-may.ensures k below)

pub returns : goal.returns
returns c = λ core slots syncs parts k below.
    let slot = c.args.slot in
    let wakes =
    c.wake_mask.ensures.value (ready_in core slot) (c.ready.ensures.value core parts.chans parts.timers parts.ports) k below
    ∙ ap (λ sr. is_some (choice_by k sr (ready_in core slot) c.args.events.now)) (c.statuses.ensures k below)
    ∙ ap (λ choice. is_some choice) (its_choice core slot c.args.threads.now c.args.events.now parts.threads parts.events k)
    in
    in_both c.allowing-may.result c.wake_mask.result k
    ∙ ap (λ b. in_mask c.allowing-may.result k && b) wakes
    ∙ among core slot c.args.threads.now c.args.events.now parts.threads parts.events k c.allowing-may.result (c.allowing-may.ensures k below)
