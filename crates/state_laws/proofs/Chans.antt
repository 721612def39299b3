-- Channel ends stay as they may be, and what the switch holds stays in use.
use Rattle.std.proofs.Common.{◌≡◌, ◌⊎◌, inl, inr, ℕ, ◌<◌, not, Bool, true, false, List, get_or, slice_index, slice_set, replicate, refl, sym, ap, subst, ◌∙◌, arith}
use Rattle.std.proofs.lemmas.Bool.{both_ways, or_right, eq-eqb, eqb-true, false≢true}
use Rattle.std.specs.Int.{bit_at}
use Rattle.std.specs.List.{list_any}
use Rattle.xs_base.specs.Numbers.{Slot, ChanNumber, EndNumber, InputNumber, ThreadNumber}
use Rattle.xs_base.specs.declared.numbers.TheConstants.{LINK_ENDS}
use Rattle.xs_model.specs.declared.outside.Arrivals.{Arrivals}
use Rattle.xs_model.specs.declared.outside.PinView.{PinView}
use Rattle.xs_model.specs.Record.{CoreRec, NodeRec, ChanRec, InputRec, Idle, Head1, Head2, Want, Local, Out, Lost, unused_chan, chan_of}
use Rattle.net_model.specs.Switch.{is_idle, is_local_to, input_of_chan, chan_is_busy}
use Rattle.step_model.specs.Effect.{Setting}
use Rattle.step_model.specs.Fixed.{Fixed}
use Rattle.step_model.specs.Start.{node_of}
use Rattle.step_model.specs.Step.{setting_of, before_issue, issued, node_step}
use Rattle.chan_ends.specs.States.{IsChan}
use Rattle.state_laws.specs.Facts.{ChansFit, InputFits, InputsFit, SwitchFits, IsPlanned, chan_is_used, end_is_there}
use Rattle.state_laws.specs.Laws.{IsSoAtFirstWith, StaysSoAsPlanned}
use Rattle.state_laws.proofs.Changes.{Change, ChanStays}
use Rattle.state_laws.proofs.Changes as change
use Rattle.state_laws.proofs.Inputs.{at, some_passes, first_inputs}
use Rattle.state_laws.proofs.Issue.{issue_keeps}
use Rattle.state_laws.proofs.Links.{first_gaps, after_gaps}
use Rattle.state_laws.proofs.Lists.{each_set, many_at, Placed, is_old, is_new, placed}
use Rattle.state_laws.proofs.Switch.{FineBefore, before_fine}

-- ---- The issue

abbrev AllFit : List ChanRec → Type 0
AllFit chans = (c : ChanNumber) → IsChan (get_or chans c unused_chan)

change_chans : (S : Type 0) (here : Setting) (k : ThreadNumber) (core after : CoreRec) → Change S here k core after → AllFit core.chans → AllFit after.chans
change_chans S here k core _ (change.sets j th is) h = h
change_chans S here k core _ (change.stores memory) h = h
change_chans S here k core _ change.issues h = h
change_chans S here k core _ (change.frees_itself is) h = h
change_chans S here k core _ (change.lets_slaves_go n) h = h
change_chans S here k core _ (change.frees_slaves n) h = h
change_chans S here k core _ (change.gets_thread j is) h = h
change_chans S here k core _ (change.gets_slave j n is master) h = h
change_chans S here k core _ (change.gets_sync n) h = h
change_chans S here k core _ (change.frees_sync n) h = h
change_chans S here k core _ (change.sets_lock n lock is) h = h
change_chans S here k core _ (change.sets_timer n timer) h = h
change_chans S here k core _ (change.sets_clock n clock) h = h
change_chans S here k core _ (change.sets_chan c chan is) h = each_set IsChan unused_chan core.chans c chan h (is.fits (h c))
change_chans S here k core _ (change.sets_port p acted port there row left) h = h
change_chans S here k core _ (change.starts_clock n) h = h
change_chans S here k core _ (change.sets_enabled enabled is) h = h
change_chans S here k core _ change.divides h = h

-- those that are at work stay in use
module _ (busy : ChanNumber → Bool) (held : ChanNumber → Type 0) (is_busy : (c : ChanNumber) → held c → busy c ≡ true) where
  abbrev HeldUsed : List ChanRec → Type 0
  HeldUsed chans = (c : ChanNumber) → held c → (get_or chans c unused_chan).used ≡ true

  set_used : (chans : List ChanRec) (c : ChanNumber) (chan : ChanRec) → ChanStays (busy c) (get_or chans c unused_chan) chan → HeldUsed chans → HeldUsed (slice_set chans c chan)
  set_used chans c chan stays h d holds = by (placed unused_chan chans c chan d)
    where
      chosen : (used : Bool) → d ≡ c → (used ≡ true) ⊎ (busy c ≡ false) → used ≡ true
      chosen used here (inl is) = is
      chosen used here (inr free) = absurd (both_ways _ free (is_busy c (subst held here holds)))

      by : Placed unused_chan chans c chan d → (get_or (slice_set chans c chan) d unused_chan).used ≡ true
      by (is_old same) = ap (λ (x : ChanRec). x.used) same ∙ h d holds
      by (is_new here is) = ap (λ (x : ChanRec). x.used) is ∙ chosen chan.used here (stays.used (ap (λ i. (get_or chans i unused_chan).used) (sym here) ∙ h d holds))

  change_used : (S : Type 0) (here : Setting) (k : ThreadNumber) (core after : CoreRec) → here.is_busy ≡ busy → Change S here k core after → HeldUsed core.chans → HeldUsed after.chans
  change_used S here k core _ same (change.sets j th is) h = h
  change_used S here k core _ same (change.stores memory) h = h
  change_used S here k core _ same change.issues h = h
  change_used S here k core _ same (change.frees_itself is) h = h
  change_used S here k core _ same (change.lets_slaves_go n) h = h
  change_used S here k core _ same (change.frees_slaves n) h = h
  change_used S here k core _ same (change.gets_thread j is) h = h
  change_used S here k core _ same (change.gets_slave j n is master) h = h
  change_used S here k core _ same (change.gets_sync n) h = h
  change_used S here k core _ same (change.frees_sync n) h = h
  change_used S here k core _ same (change.sets_lock n lock is) h = h
  change_used S here k core _ same (change.sets_timer n timer) h = h
  change_used S here k core _ same (change.sets_clock n clock) h = h
  change_used S here k core _ same (change.sets_chan c chan is) h =
      set_used core.chans c chan (subst (λ (b : ChanNumber → Bool). ChanStays (b c) (chan_of core c) chan) same is) h
  change_used S here k core _ same (change.sets_port p acted port there row left) h = h
  change_used S here k core _ same (change.starts_clock n) h = h
  change_used S here k core _ same (change.sets_enabled enabled is) h = h
  change_used S here k core _ same change.divides h = h

-- ---- The inputs

-- some input holds a channel end
pub record IsHeld (inputs : List InputRec) (c : ChanNumber) : Type 0 where
  pub by : InputNumber
  pub holds : is_local_to c (at inputs by) ≡ true

held_is_busy : (rec : NodeRec) (c : ChanNumber) → IsHeld rec.inputs c → chan_is_busy rec c ≡ true
held_is_busy rec c h = or_right (not (is_idle (at rec.inputs (input_of_chan c)))) (list_any (is_local_to c) rec.inputs) (some_passes (is_local_to c) rec.inputs h.by refl h.holds)

-- where other channel ends are in use, those that are held among them
input_so : (used other : ChanNumber → Bool) (there ends : EndNumber → Bool) (i : InputNumber) (state : InputRec) → ((c : ChanNumber) → is_local_to c state ≡ true → other c ≡ true) → ((e : EndNumber) → ends e ≡ there e) → InputFits used there i state → InputFits other ends i state
input_so used other there ends i Idle held same h = h
input_so used other there ends i (Head1 high) held same h = h
input_so used other there ends i (Head2 high low) held same h = h
input_so used other there ends i (Want dest net) held same h = h
input_so used other there ends i (Local chan) held same h = (h.0, held chan (eq-eqb chan chan refl))
input_so used other there ends i (Out end headers dest) held same h = (h.0, h.1, same end ∙ h.2)
input_so used other there ends i Lost held same h = h

inputs_so : (used other : ChanNumber → Bool) (there ends : EndNumber → Bool) (inputs : List InputRec) → ((c : ChanNumber) → IsHeld inputs c → other c ≡ true) → ((e : EndNumber) → ends e ≡ there e) → InputsFit used there inputs → InputsFit other ends inputs
inputs_so used other there ends inputs held same h = record {
  each = λ i. input_so used other there ends i (at inputs i) (λ c mine. held c (record { by = i; holds = mine })) same (h.each i);
  chans = h.chans;
  ends = h.ends;
}

-- a channel end that is held is in use
pub held_used : (used : ChanNumber → Bool) (there : EndNumber → Bool) (inputs : List InputRec) (c : ChanNumber) → InputsFit used there inputs → IsHeld inputs c → used c ≡ true
held_used used there inputs c all h = by (at inputs h.by) (all.each h.by) h.holds
  where
    by : (state : InputRec) → InputFits used there h.by state → is_local_to c state ≡ true → used c ≡ true
    by Idle fits mine = absurd (false≢true mine)
    by (Head1 high) fits mine = absurd (false≢true mine)
    by (Head2 high low) fits mine = absurd (false≢true mine)
    by (Want dest net) fits mine = absurd (false≢true mine)
    by (Local chan) fits mine = let same : chan ≡ c = eqb-true chan c mine in subst (λ n. used n ≡ true) same fits.1
    by (Out end headers dest) fits mine = absurd (false≢true mine)
    by Lost fits mine = absurd (false≢true mine)

-- ---- The laws

chan_first : (n i : ℕ) → IsChan (get_or (replicate n unused_chan) i unused_chan)
chan_first n i =
    let none : IsChan unused_chan = record { net = omega arith; dest = tt; output = λ none. refl } in
    many_at IsChan unused_chan n unused_chan i none none

pub first_switch : IsSoAtFirstWith (λ gaps rec. SwitchFits gaps rec)
first_switch plan gaps eight = record {
  chans = chan_first 32;
  inputs = first_inputs (chan_is_used (node_of plan gaps).core) (end_is_there (node_of plan gaps)) 40;
  ends = first_gaps gaps;
}

module _ (fixed : Fixed) (rec : NodeRec) (slot : Slot) (arrivals : Arrivals) (pins : PinView) (planned : IsPlanned fixed) (h : SwitchFits fixed.routes.gaps rec) where
  abbrev before : NodeRec
  before = (before_issue fixed rec slot arrivals pins).rec

  abbrev here : Setting
  here = setting_of fixed slot pins before

  abbrev last : CoreRec
  last = (issued fixed.code here before.core).core

  leads : (bit e : ℕ) → bit < 16 → e < LINK_ENDS → bit_at (slice_index fixed.routes.ways bit) e ≡ 1 → end_is_there rec e ≡ true
  leads bit e low there is = (h.ends e).1 (planned.ways bit e low there is)

  fine : FineBefore (Unit {0}) fixed rec slot arrivals pins before
  fine = before_fine (Unit {0}) fixed rec slot arrivals pins (λ s. planned.nets) (λ s. leads) (λ s. h.chans) (λ s. h.inputs)

  chans_after : ChansFit last
  chans_after = issue_keeps fixed.code here before.core (λ core. AllFit core.chans) (λ k core after changes. change_chans _ here k core after changes) (fine.fits tt).chans

  used_before : (c : ChanNumber) → IsHeld before.inputs c → chan_is_used before.core c ≡ true
  used_before c held = fine.in_use c ∙ held_used (chan_is_used rec.core) (end_is_there rec) before.inputs c (fine.fits tt).inputs held

  used_after : (c : ChanNumber) → IsHeld before.inputs c → chan_is_used last c ≡ true
  used_after =
      issue_keeps fixed.code here before.core (λ core. HeldUsed (chan_is_busy before) (IsHeld before.inputs) (held_is_busy before) core.chans)
      (λ k core after changes. change_used (chan_is_busy before) (IsHeld before.inputs) (held_is_busy before) _ here k core after refl changes) used_before

  inputs_after : (ends : EndNumber → Bool) → ((e : EndNumber) → ends e ≡ end_is_there rec e) → InputsFit (chan_is_used last) ends before.inputs
  inputs_after ends same = inputs_so (chan_is_used rec.core) (chan_is_used last) (end_is_there rec) ends before.inputs used_after same (fine.fits tt).inputs

  slot_fits : InputsFit (chan_is_used last) (end_is_there before) before.inputs
  slot_fits = inputs_after (end_is_there before) fine.ends

pub slot_switch : StaysSoAsPlanned (λ gaps slot rec. SwitchFits gaps rec)
unfolding node_step
slot_switch fixed rec slot arrivals pins planned levels h = record {
  chans = chans_after fixed rec slot arrivals pins planned h;
  inputs = slot_fits fixed rec slot arrivals pins planned h;
  ends = after_gaps fixed rec slot arrivals pins fixed.routes.gaps h.ends;
}
