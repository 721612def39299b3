-- Slots over which a core goes at once.
use Rattle.std.proofs.Common.{◌≡◌, ℕ, zero, suc, ◌+◌, ◌-◌, ◌<◌, ◌≤◌, inl, inr, min, Bool, true, false, List, [], ◌∷◌, Option, Some, None, refl, ap, ap₂, sym, ◌∙◌, arith, subst}
use Rattle.std.proofs.lemmas.Bool.{cases_lt}
use Rattle.std.specs.Prelude.{◌&&◌, ◌||◌, IfSome}
use Rattle.std.specs.List.{AllByRecursion}
use Rattle.xs_base.specs.Numbers.{Slot}
use Rattle.xs_model.specs.declared.outside.PinView.{PinView}
use Rattle.xs_model.specs.declared.outside.Arrivals.{Arrivals}
use Rattle.xs_model.specs.Record.{CoreRec, NodeRec, LinkRec, PortRec, ClockRec}
use Rattle.xs_model.specs.Ports.{levels_of}
use Rattle.xs_model.specs.Outside.{Emitted, emitted_events}
use Rattle.net_model.specs.Links.{IsLinkBefore}
use Rattle.link_ends.specs.Counts.{EndCounts}
use Rattle.xs_model.specs.AtWork.{AtWork, slot_begins, emitted_in}
use Rattle.net_model.specs.Switch.{moves}
use Rattle.step_model.specs.Fixed.{Fixed}
use Rattle.step_model.specs.Step.{Stepped, node_step, note_levels, issue, ports_step}
use Rattle.quiet_laws.proofs.Network.{links_stay as none_come}
use Rattle.core_step.proofs.Arriving.{links_stay}
use Rattle.step_laws.specs.EightSlots.{after_slots}
use Rattle.quiet_model.specs.Slots.{IsFirst}
use Rattle.quiet_model.specs.Clocks.{ports_counted}
use Rattle.quiet_model.specs.Still.{still}
use Rattle.quiet_model.specs.Stirs.{some_eligible, ports_stir, stirs}
use Rattle.quiet_laws.specs.Undisturbed.{undisturbed_run, undisturbed_until, no_arrivals, IsWhole, ShowsAll}
use Rattle.quiet_laws.specs.Quiet.{StirsFirst, OtherNodeStirsNow, StillNodeStirsFirst, QuietSlotOnlyCounts, QuietSlotsOnlyCount, IsQuietUntil, core_counted, only_counted}
use Rattle.quiet_laws.proofs.Ports.{ports_uncounted, ports_count_on, ports_stay_still, levels_stay}
use Rattle.quiet_laws.proofs.Threads.{some_alike}
use Rattle.core_step.specs.PinLevels.{from_outside}
use Rattle.core_step.specs.Core.{CoreValue, StandsFor, StandsAt, SentBefore, NothingArrives, Passes}
use Rattle.core_step.specs.Quiet.{IsQuietTo}

-- where there is no slot before the bound, the first is the bound
first_is_bound : (holds : Slot → Bool) (from bound result : Slot) → bound ≤ from → result ≡ bound → IsFirst holds from bound result
first_is_bound holds from bound result beyond is = record { none_before = λ slot after before. absurd (omega (arith, beyond, is, after, before)); there = inr is }

-- a node that is not still stirs in the slot itself
pub stirs_now : OtherNodeStirsNow → (fixed : Fixed) (rec : NodeRec) (from : Slot) (pins : Slot → PinView) (bound result : Slot) → still rec ≡ false → result ≡ min from bound → StirsFirst fixed rec from pins bound result
stirs_now law fixed rec from pins bound result moves is = elim (cases_lt from bound) [
  | inl less ↦
      let its : from ≡ result = omega (arith, is, less) in
      subst (StirsFirst fixed rec from pins bound) its (law fixed rec from pins bound moves less)
  | inr more ↦ first_is_bound _ from bound result more (omega (arith, is, more))
]

-- ---- What is found of a core holds of the node for which it stands

abbrev pub found : CoreRec → Slot → Slot → Bool
found core from t = ports_stir core.clocks t (ports_counted core.clocks from (t - from) core.ports) || some_eligible core t

pub is_still : (value : CoreValue) (rec : NodeRec) (from to : Slot) → StandsFor value rec → IsQuietTo value from to → still rec ≡ true
is_still value rec from to stands quiet =
    let its = ap₂ (λ network ports. network && ports) (quiet.network rec.links stands.links) quiet.ports in
    subst (λ (c : CoreRec). still (record rec { core = c }) ≡ true) stands.core
    (subst (λ inputs. still (record rec { core = value.core; inputs = inputs }) ≡ true) stands.inputs its)

pub stirs_of : StillNodeStirsFirst → (value : CoreValue) (rec : NodeRec) (from bound result : Slot) (pins : Slot → PinView) →
    IsWhole value.core → StandsFor value rec → ((slot : Slot) → ShowsAll (pins slot)) → still rec ≡ true →
    IsFirst (found value.core from) from bound result → StirsFirst value.fixed rec from pins bound result
stirs_of law value rec from bound result pins whole stands all calm first =
    law value.fixed rec from pins bound result (subst IsWhole stands.core whole) all calm
    (subst (λ (c : CoreRec). IsFirst (found c from) from bound result) stands.core first)

-- none of the slots is one in which the node stirs
pub quiet_until : StillNodeStirsFirst → (value : CoreValue) (rec : NodeRec) (from to : Slot) (pins : Slot → PinView) →
    IsWhole value.core → StandsFor value rec → ((slot : Slot) → ShowsAll (pins slot)) → IsQuietTo value from to → IsQuietUntil value.fixed rec from pins to
quiet_until law value rec from to pins whole stands all quiet =
    (stirs_of law value rec from to to pins whole stands all (is_still value rec from to stands quiet) (record { none_before = quiet.none; there = inr refl })).none_before

-- ---- A slot in which nothing arrives, whatever the arrivals that say so

pub nothing_alike : (fixed : Fixed) (rec : NodeRec) (slot : Slot) (arrivals : Arrivals) (pins : PinView) → NothingArrives arrivals → node_step fixed rec slot no_arrivals pins ≡ node_step fixed rec slot arrivals pins
unfolding node_step
nothing_alike fixed rec slot arrivals pins none =
    let after : AtWork → AtWork = λ m. note_levels pins (issue fixed slot pins (moves fixed.routes slot (ports_step slot pins m))) in
    let arrived : List (Option LinkRec) → AtWork = λ links. record (slot_begins rec) { rec = record rec { links = links } } in
    ap (λ (links : List (Option LinkRec)). let s : Stepped = record { rec = (after (arrived links)).rec; emitted = emitted_in slot (after (arrived links)) } in s)
    (none_come slot 0 rec.links ∙ sym (links_stay slot 0 arrivals.tokens arrivals.credits rec.links none.tokens none.credits))

-- a quiet slot in which nothing arrives
pub passes_nothing : (slot : Slot) (arrivals : Arrivals) (pins : PinView) (before after : CoreValue) (given : Emitted) → NothingArrives arrivals → given ≡ emitted_events []
    → Passes slot no_arrivals pins before after (emitted_events []) → Passes slot arrivals pins before after given
passes_nothing slot arrivals pins before after given none is p = record {
  fixed = p.fixed;
  step = λ rec at. subst (λ (s : Stepped). StandsAt after s.rec (slot + 1)) (nothing_alike before.fixed rec slot arrivals pins none) (p.step rec at);
  emissions = λ rec at. is ∙ p.emissions rec at ∙ ap (λ (s : Stepped). s.emitted) (nothing_alike before.fixed rec slot arrivals pins none);
  levels = p.levels;
  next = p.next;
}

-- ---- After the slots

slots_before : (from to : ℕ) → from ≤ to → (slots : List ℕ) → AllByRecursion (λ s. s < from) slots → AllByRecursion (λ s. s < to) slots
slots_before from to on [] h = tt
slots_before from to on (s ∷ slots) h = (omega (arith, on, h.0), slots_before from to on slots h.1)

links_before : (from to : ℕ) → from ≤ to → (links : List (Option LinkRec)) → AllByRecursion (λ l. IfSome l (IsLinkBefore from)) links → AllByRecursion (λ l. IfSome l (IsLinkBefore to)) links
links_before from to on [] h = tt
links_before from to on (None ∷ links) h = (tt, links_before from to on links h.1)
links_before from to on (Some link ∷ links) h =
    (record { sent = slots_before from to on link.sent h.0.sent; credited = slots_before from to on link.credited h.0.credited }, links_before from to on links h.1)

last_before : (from to : ℕ) → from ≤ to → (last : Option ℕ) → IfSome last (λ s. s < from) → IfSome last (λ s. s < to)
last_before from to on None h = tt
last_before from to on (Some s) h = omega (arith, on, h)

pub sent_before_later : (from to : ℕ) → from ≤ to → (row : List (Option EndCounts)) → SentBefore from row → SentBefore to row
sent_before_later from to on [] h = tt
sent_before_later from to on (None ∷ row) h = (tt, sent_before_later from to on row h.1)
sent_before_later from to on (Some counts ∷ row) h = (last_before from to on counts.last_sent h.0, sent_before_later from to on row h.1)

-- the core after so many slots in which its ports only count
abbrev pub value_counted : Slot → ℕ → PinView → CoreValue → CoreValue
value_counted from count last value = record value { core = core_counted from count value.core; levels = from_outside last }

-- a core that stands for a node stands for the node after the slots
pub skipped : StillNodeStirsFirst → QuietSlotsOnlyCount → (value : CoreValue) (rec : NodeRec) (from to : Slot) (pins : Slot → PinView) (last : PinView) →
    IsWhole value.core → StandsAt value rec from → from < to → IsQuietTo value from to → ((slot : Slot) → ShowsAll (pins slot)) → pins (to - 1) ≡ last →
    StandsAt (value_counted from (to - from) last value) (undisturbed_until value.fixed rec from pins to) to
skipped first slots value rec from to pins last whole at less quiet all its =
    let core : value.core ≡ rec.core = at.stands.core in
    let none = quiet_until first value rec from to pins whole at.stands all quiet in
    let after : only_counted from (to - from) last rec ≡ undisturbed_until value.fixed rec from pins to =
    sym (slots value.fixed rec from pins to (subst IsWhole core whole) all less none ∙ ap (λ pins. only_counted from (to - from) pins rec) its) in
    subst (λ r. StandsAt (value_counted from (to - from) last value) r to) after
    (record {
      stands = record {
        core = ap (core_counted from (to - from)) core;
        levels = levels_stay value.core.clocks from (to - from) value.core.ports last.level ∙ ap (λ (c : CoreRec). levels_of c.ports last.level) core;
        inputs = at.stands.inputs;
        links = at.stands.links;
      };
      links = links_before from to (omega (arith, less)) rec.links at.links;
    })

-- ---- One slot

pub sooner : (value : CoreValue) (from to until : Slot) → to ≤ until → IsQuietTo value from until → IsQuietTo value from to
sooner value from to until within quiet = record { network = quiet.network; ports = quiet.ports; none = λ t first before. quiet.none t first (omega (arith, within, before)) }

-- a node before a slot, and after it
none_yet : (fixed : Fixed) (rec : NodeRec) (slot : Slot) (pins : Slot → PinView) → undisturbed_until fixed rec slot pins slot ≡ rec
unfolding after_slots
none_yet fixed rec slot pins = let none : slot - slot ≡ 0 = omega arith in ap (after_slots (undisturbed_run fixed rec slot pins)) none

pub after_one : (fixed : Fixed) (rec : NodeRec) (slot : Slot) (pins : PinView) → undisturbed_until fixed rec slot (λ t. pins) (slot + 1) ≡ (node_step fixed rec slot no_arrivals pins).rec
unfolding after_slots
after_one fixed rec slot pins =
    let one : (slot + 1) - slot ≡ 1 = omega arith in
    let here : slot + 0 ≡ slot = omega arith in
    ap (after_slots (undisturbed_run fixed rec slot (λ t. pins))) one ∙ ap (λ s. (node_step fixed rec s no_arrivals pins).rec) here

-- in a quiet slot it gives nothing
pub gives_nothing : StillNodeStirsFirst → QuietSlotOnlyCounts → (value : CoreValue) (rec : NodeRec) (slot : Slot) (pins : PinView) →
    IsWhole value.core → ShowsAll pins → StandsFor value rec → IsQuietTo value slot (slot + 1) →
    (node_step value.fixed rec slot no_arrivals pins).emitted ≡ emitted_events []
gives_nothing first counts value rec slot pins whole all stands quiet =
    let none = quiet_until first value rec slot (slot + 1) (λ t. pins) whole stands (λ t. all) quiet in
    let calm = ap (λ r. stirs r slot) (sym (none_yet value.fixed rec slot (λ t. pins))) ∙ none slot (omega arith) (omega arith) in
    ap (λ (s : Stepped). s.emitted) (counts value.fixed rec slot pins (subst IsWhole stands.core whole) all calm)

-- ---- It is still quiet after the first of the slots

counted_later : (clocks : List ClockRec) (from k n : ℕ) (ports : List PortRec) → ports_counted clocks (from + k) n (ports_counted clocks from k ports) ≡ ports_counted clocks from (k + n) ports
counted_later clocks from k zero ports =
    let none : k ≡ k + 0 = omega arith in
    ports_uncounted clocks (from + k) (ports_counted clocks from k ports) ∙ ap (λ count. ports_counted clocks from count ports) none
counted_later clocks from k (suc n) ports =
    let here : from + k + n ≡ from + (k + n) = omega arith in
    let one : suc (k + n) ≡ k + suc n = omega arith in
    sym (ports_count_on clocks (from + k) n (ports_counted clocks from k ports))
    ∙ ap₂ (λ slot ports. ports_counted clocks slot 1 ports) here (counted_later clocks from k n ports)
    ∙ ports_count_on clocks from (k + n) ports
    ∙ ap (λ count. ports_counted clocks from count ports) one

found_later : (core : CoreRec) (from k t : Slot) → from + k ≤ t → found (core_counted from k core) (from + k) t ≡ found core from t
found_later core from k t on =
    let so_many : k + (t - (from + k)) ≡ t - from = omega (arith, on) in
    ap₂ (λ ports some. ports_stir core.clocks t ports || some) (counted_later core.clocks from k (t - (from + k)) core.ports ∙ ap (λ n. ports_counted core.clocks from n core.ports) so_many) (some_alike from k core t)

pub quiet_after : (value : CoreValue) (from k to : Slot) (last : PinView) → IsQuietTo value from to → IsQuietTo (value_counted from k last value) (from + k) to
quiet_after value from k to last quiet = record {
  network = quiet.network;
  ports = ports_stay_still value.core.clocks from k value.core.ports ∙ quiet.ports;
  none = λ t first before. found_later value.core from k t first ∙ quiet.none t (omega (arith, first)) before;
}
