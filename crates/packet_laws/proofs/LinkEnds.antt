-- What a step of the switch finds and does at one link end: whether it is free, and whether it may send.
use Rattle.std.proofs.Common.{◌≡◌, ℕ, zero, suc, ◌+◌, ◌<◌, ◌≤◌, ◌==◌, Bool, true, false, not, ◌&&◌, IfSome, Option, Some, None, List, [], ◌∷◌, get_or, slice_index, slice_set, refl, ap, ◌∙◌, arith}
use Rattle.std.proofs.lemmas.Bool.{cond_both, and_parts, and_right, not-true, eqb-true, lt-leb, or_parts}
use Rattle.std.specs.Int.{bit_at}
use Rattle.std.specs.List.{list_any}
use Rattle.xs_base.specs.Numbers.{Slot, EndNumber, InputNumber}
use Rattle.xs_model.specs.Record.{NodeRec, LinkRec, InputRec, Idle}
use Rattle.xs_model.specs.AtWork.{AtWork}
use Rattle.net_model.specs.Links.{gap_is_over}
use Rattle.net_model.specs.Switch.{Routes, is_link_input, sent_in, end_is_held, link_at, free_end, take_first, end_may_send}
use Rattle.link_laws.proofs.SlotAtEnd.{latest_is}
use Rattle.link_laws.proofs.SlotAtEndLists.{may_after_take}

-- ---- A link end that is free

-- one of a mask, of the link ends below a number, which no input holds
pub record IsFreeEnd (rec : NodeRec) (mask bound : ℕ) (end : EndNumber) : Type 0 where
  pub in_mask : bit_at mask end ≡ 1
  pub low : end < bound
  pub free : end_is_held rec end ≡ false

pub free_end_is : (rec : NodeRec) (mask end count bound : ℕ) → end + count ≡ bound → IfSome (free_end rec mask end count) (IsFreeEnd rec mask bound)
unfolding free_end
free_end_is rec mask end zero bound all = tt
free_end_is rec mask end (suc count) bound all =
    cond_both ((bit_at mask end == 1) && not (end_is_held rec end)) (Some end) _ (λ found. IfSome found (IsFreeEnd rec mask bound))
    (λ yes.
    let parts = and_parts (bit_at mask end == 1) (not (end_is_held rec end)) yes in
    record { in_mask = eqb-true (bit_at mask end) 1 parts.0; low = omega (arith, all); free = not-true (end_is_held rec end) parts.1 })
    (λ other. free_end_is rec mask (end + 1) count bound (omega (arith, all)))

-- a test that no input passes
pub none_at : (test : InputRec → Bool) (inputs : List InputRec) → test Idle ≡ false → list_any test inputs ≡ false →
    (j : InputNumber) → test (get_or inputs j Idle) ≡ false
none_at test [] idle none j = idle
none_at test (first ∷ inputs) idle none zero = (or_parts (test first) (list_any test inputs) none).0
none_at test (first ∷ inputs) idle none (suc j) = none_at test inputs idle (or_parts (test first) (list_any test inputs) none).1 j

-- ---- Whether it may send

module _ (routes : Routes) (slot : Slot) (e : EndNumber) where
  -- where it might, it may once an input's first token is taken
  pub may_still : (i : InputNumber) (m : AtWork) →
      end_may_send routes slot e (link_at m.rec e) ≡ true → end_may_send routes slot e (link_at (take_first i m).rec e) ≡ true
  may_still i m may =
      cond_both (is_link_input i) _ _ (λ (taken : AtWork). end_may_send routes slot e (link_at taken.rec e) ≡ true)
      (λ link. may_after_take routes slot m.rec.links i e ∙ may) (λ chan. may)

  -- where it sent in a slot, it may not send again in it
  module _ (long : 1 ≤ slice_index routes.gaps e) where
    not_again : (link : Option LinkRec) → end_may_send routes slot e (sent_in slot link) ≡ false
    not_again None = refl
    not_again (Some link) =
        let gap = slice_index routes.gaps e in
        and_right _ _ (ap (gap_is_over gap slot) (latest_is link.sent slot) ∙ lt-leb (slot + gap) slot (omega arith))

    -- the link end has place j here
    pub not_again_at : (links : List (Option LinkRec)) (j : ℕ) →
        end_may_send routes slot e (get_or (slice_set links j (sent_in slot (get_or links j None))) j None) ≡ false
    not_again_at [] j = refl
    not_again_at (link ∷ links) zero = not_again link
    not_again_at (link ∷ links) (suc j) = not_again_at links j
