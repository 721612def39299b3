-- Whether all threads of a mask are in, from one on.
use Rattle.std.proofs.Common.{ℕ, ◌≡◌, ◌+◌, ◌<◌, Bool, true, false, List, length, get_or, ap, sym, ◌∙◌, arith}
use Rattle.std.specs.Prelude.{◌&&◌, slice_index_or}
use Rattle.std.specs.List.{list_all}
use Rattle.std.proofs.lemmas.List.{get_or_default}
use Rattle.xs_model.specs.declared.thread.Thread.{Thread}
use Rattle.xs_model.specs.Threads.{fresh_thread}
use Rattle.xs_model.specs.Masks.{in_mask}
use Rattle.xs_model.specs.Waits.{is_in}
use Rattle.core_waits.proofs.Members.{members_from, member, no_member}

module _ (threads : List Thread) (mask k : ℕ) where
  abbrev pub in_from : ℕ → Bool
  in_from n = list_all (λ j. is_in (slice_index_or threads j fresh_thread).run) (members_from mask n)

  -- a member decides by itself, or leaves it to those after it
  pub with_member : (default : Thread) (is : Bool) → length threads ≡ 8 → k < 8 → in_mask mask k ≡ true → is ≡ is_in (get_or threads k default).run → in_from k ≡ (is && in_from (k + 1))
  with_member default is eight within among its =
      ap (list_all (λ j. is_in (slice_index_or threads j fresh_thread).run)) (member mask k within among)
      ∙ ap (λ b. b && in_from (k + 1)) (ap (λ (th : Thread). is_in th.run) (get_or_default threads k fresh_thread default (omega (arith, eight))) ∙ sym its)

  pub without_member : k < 8 → in_mask mask k ≡ false → in_from k ≡ in_from (k + 1)
  without_member within among =
      ap (list_all (λ j. is_in (slice_index_or threads j fresh_thread).run)) (no_member mask k within among)
