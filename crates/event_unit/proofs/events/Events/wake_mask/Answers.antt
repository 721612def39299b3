use Rattle.std.proofs.Common.{ℕ, ◌≡◌, ◌+◌, Bool, is_some, slice_index_or, sym, subst, ◌∙◌}
use Rattle.xs_model.specs.Status.{no_status}
use Rattle.xs_model.specs.Choices.{choice_by}
use Rattle.event_unit.proofs.Wakes.{AreWoken, one_woken, one_passed}
use Rattle.event_unit.proofs.events.Events.wake_mask.Goals.{then-has_choice, else-has_choice}
use Rattle.event_unit.proofs.events.Events.wake_mask.Goals as goal

pub loop-k-preserved : goal.loop-k-preserved
loop-k-preserved c rec ready =
    let wakes : ℕ → Bool = λ j. is_some (choice_by j (slice_index_or c.args.sr.now j no_status) rec c.args.self.now) in
    let result : c.has_choice.result ≡ wakes c.loop-k.k = c.has_choice.ensures rec ready in
    elim c.if-has_choice.branch [
      | then-has_choice w ↦ subst (AreWoken wakes (c.loop-k.k + 1)) (sym w.mask-is) (one_woken wakes c.loop-k.k c.loop-k.mask w.with_thread-mask.result (c.loop-k.invariant rec ready) (sym result ∙ w.if-has_choice.true) w.with_thread-mask.ensures.added w.with_thread-mask.ensures.others)
      | else-has_choice w ↦ subst (AreWoken wakes (c.loop-k.k + 1)) (sym w.mask-is) (one_passed wakes c.loop-k.k c.loop-k.mask (c.loop-k.invariant rec ready) (sym result ∙ w.if-has_choice.false))
    ]
