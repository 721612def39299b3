-- Many quiet slots of a node, and its first slot that is not quiet.
use Rattle.std.proofs.Common.{◌≡◌, ℕ, zero, suc, ◌+◌, ◌-◌, ◌≤◌, Bool, true, false, not, ◌&&◌, ◌||◌, List, inl, refl, sym, ap, ap₂, ◌∙◌, subst, arith}
use Rattle.std.proofs.lemmas.Bool.{or_left, not_from_false}
use Rattle.xs_base.specs.Numbers.{Slot, Word}
use Rattle.xs_model.specs.declared.outside.PinView.{PinView}
use Rattle.xs_model.specs.Record.{NodeRec}
use Rattle.xs_model.specs.Ports.{levels_of}
use Rattle.step_model.specs.Fixed.{Fixed}
use Rattle.step_model.specs.Step.{Stepped, node_step}
use Rattle.step_laws.specs.EightSlots.{after_slots}
use Rattle.quiet_model.specs.Slots.{NoneBefore, FirstAlike}
use Rattle.quiet_model.specs.Clocks.{ports_counted}
use Rattle.quiet_model.specs.Still.{network_is_still, still}
use Rattle.quiet_model.specs.Stirs.{some_eligible, ports_stir, stirs}
use Rattle.quiet_laws.specs.Undisturbed.{no_arrivals, undisturbed_run, undisturbed_until, IsWhole, ShowsAll}
use Rattle.quiet_laws.specs.Quiet.{core_counted, only_counted, IsQuietUntil, QuietSlotsOnlyCount, StillNodeStirsFirst, OtherNodeStirsNow}
use Rattle.quiet_laws.proofs.Ports.{ports_uncounted, ports_count_on, ports_stay_still, levels_stay, as_many}
use Rattle.quiet_laws.proofs.Threads.{some_alike}
use Rattle.quiet_laws.proofs.Slot.{quiet_slot}

module _ (fixed : Fixed) (rec : NodeRec) (from : Slot) (pins : Slot → PinView) (whole : IsWhole rec.core) (all : (t : Slot) → ShowsAll (pins t)) where
  -- the node after so many slots, and as it is then where it only counted
  abbrev after : ℕ → NodeRec
  after n = after_slots (undisturbed_run fixed rec from pins) n

  abbrev levels_after : ℕ → List Word
  levels_after zero = rec.levels
  levels_after (suc n) = levels_of rec.core.ports (pins (from + n)).level

  abbrev counted : ℕ → NodeRec
  counted n = record rec { core = core_counted from n rec.core; levels = levels_after n }

  counted_none : after 0 ≡ counted 0
  unfolding after_slots
  counted_none = ap (λ ports. record rec { core = record rec.core { ports = ports } }) (sym (ports_uncounted rec.core.clocks from rec.core.ports))

  counted_whole : (n : ℕ) → IsWhole (counted n).core
  counted_whole n = record { ports = as_many rec.core.clocks from n rec.core.ports ∙ whole.ports; last = whole.last }

  -- a quiet slot more
  counted_next : (n : ℕ) → after n ≡ counted n → stirs (counted n) (from + n) ≡ false → after (suc n) ≡ counted (suc n)
  unfolding after_slots
  counted_next n is none =
      let slot = from + n in
      ap (λ r. (node_step fixed r slot no_arrivals (pins slot)).rec) is
      ∙ ap (λ (s : Stepped). s.rec) (quiet_slot fixed (counted n) slot (pins slot) (counted_whole n) (all slot) none)
      ∙ ap₂ (λ ports levels. record rec { core = record rec.core { ports = ports }; levels = levels })
      (ports_count_on rec.core.clocks from n rec.core.ports) (levels_stay rec.core.clocks from n rec.core.ports (pins slot).level)

  -- ---- From what is said of the node in each slot

  -- so many slots after it is this one
  at_count : (n : ℕ) → undisturbed_until fixed rec from pins (from + n) ≡ after n
  at_count n = let so_many : (from + n) - from ≡ n = omega arith in ap after so_many

  until_counts : (n : ℕ) → IsQuietUntil fixed rec from pins (from + n) → after n ≡ counted n
  until_counts zero quiet = counted_none
  until_counts (suc n) quiet =
      let is = until_counts n (λ t first later. quiet t first (omega (arith, later))) in
      counted_next n is (ap (λ r. stirs r (from + n)) (sym (at_count n ∙ is)) ∙ quiet (from + n) (omega arith) (omega arith))

  -- ---- From the node as it is

  module _ (is_still : still rec ≡ true) where
    -- what is looked for
    abbrev found : Slot → Bool
    found t = ports_stir rec.core.clocks t (ports_counted rec.core.clocks from (t - from) rec.core.ports) || some_eligible rec.core t

    stays_still : (n : ℕ) → still (counted n) ≡ true
    stays_still n = ap (λ ports. network_is_still rec.core.chans rec.links rec.inputs && ports) (ports_stay_still rec.core.clocks from n rec.core.ports) ∙ is_still

    either_way : (a b c : Bool) → a ≡ true → (not a || (b || c)) ≡ (c || b)
    either_way true true true is = refl
    either_way true true false is = refl
    either_way true false true is = refl
    either_way true false false is = refl
    either_way false b c is = cc

    stirs_where : (n : ℕ) → stirs (counted n) (from + n) ≡ found (from + n)
    stirs_where n =
        let t = from + n in
        let so_many : n ≡ t - from = omega arith in
        either_way (still (counted n)) (some_eligible (counted n).core t) (ports_stir rec.core.clocks t (ports_counted rec.core.clocks from n rec.core.ports)) (stays_still n)
        ∙ ap₂ (λ m some. ports_stir rec.core.clocks t (ports_counted rec.core.clocks from m rec.core.ports) || some) so_many (some_alike from n rec.core t)

    found_counts : (n : ℕ) → NoneBefore found from (from + n) → after n ≡ counted n
    found_counts zero none = counted_none
    found_counts (suc n) none =
        counted_next n (found_counts n (λ t first later. none t first (omega (arith, later)))) (stirs_where n ∙ none (from + n) (omega arith) (omega arith))

    found_is : (t : Slot) → from ≤ t → NoneBefore found from t → found t ≡ stirs (undisturbed_until fixed rec from pins t) t
    found_is t first none =
        let n = t - from in
        let here : from + n ≡ t = omega arith in
        subst (λ s. NoneBefore found from s → found s ≡ stirs (undisturbed_until fixed rec from pins s) s) here
        (λ none. sym (ap (λ r. stirs r (from + n)) (at_count n ∙ found_counts n none) ∙ stirs_where n)) none

pub quiet_slots : QuietSlotsOnlyCount
quiet_slots fixed rec from pins slot whole all later quiet =
    let n = slot - suc from in
    let here : from + suc n ≡ slot = omega arith in
    let so_many : slot - from ≡ suc n = omega arith in
    let last : from + n ≡ slot - 1 = omega arith in
    ap (after fixed rec from pins whole all) so_many
    ∙ until_counts fixed rec from pins whole all (suc n) (subst (IsQuietUntil fixed rec from pins) (sym here) quiet)
    ∙ ap₂ (λ count t. only_counted from count (pins t) rec) (sym so_many) last

pub still_stirs_first : FirstAlike → StillNodeStirsFirst
still_stirs_first alike fixed rec from pins bound result whole all is_still found =
    alike _ (λ t. stirs (undisturbed_until fixed rec from pins t) t) from bound result (λ t first within none. found_is fixed rec from pins whole all is_still t first none) found

pub other_stirs_now : OtherNodeStirsNow
unfolding after_slots
other_stirs_now fixed rec from pins bound other within =
    let none : from - from ≡ 0 = omega arith in
    record {
      none_before = λ t first before. absurd (omega (arith, first, before));
      there = inl (omega arith, within, ap (λ n. stirs (after_slots (undisturbed_run fixed rec from pins) n) from) none ∙ or_left _ _ (not_from_false (still rec) other));
    }
