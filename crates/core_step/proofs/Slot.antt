-- One slot of a core: the edges, the network, and then an issue.
use Rattle.std.proofs.Common.{◌≡◌, ℕ, ◌+◌, ◌<◌, ◌≤◌, List, [], ◌∷◌, Option, Some, None, ap, sym, ◌∙◌, arith, subst}
use Rattle.std.specs.Prelude.{IfSome}
use Rattle.std.specs.List.{AllByRecursion}
use Rattle.std.proofs.lemmas.List.{map-append}
use Rattle.xs_base.specs.Numbers.{Slot}
use Rattle.xs_base.specs.declared.numbers.TheConstants.{CHAN_ENDS}
use Rattle.xs_model.specs.declared.outside.Arrivals.{Arrivals}
use Rattle.xs_model.specs.declared.outside.PinView.{PinView}
use Rattle.xs_model.specs.declared.event.Event.{Event}
use Rattle.xs_model.specs.Record.{CoreRec, NodeRec, LinkRec, ChanRec}
use Rattle.xs_model.specs.Outside.{Emitted, in_slot}
use Rattle.xs_model.specs.AtWork.{AtWork, slot_begins, emitted_in}
use Rattle.xs_model.specs.Ports.{levels_of}
use Rattle.net_model.specs.Links.{latest}
use Rattle.net_model.specs.Switch.{is_busy_among}
use Rattle.link_ends.specs.Counts.{EndCounts, CountsOf, NeverFall}
use Rattle.switch_routes.specs.Rows.{AllCountsOf, CreditedBy, SentBy}
use Rattle.step_model.specs.Fixed.{Fixed}
use Rattle.step_model.specs.Effect.{Setting}
use Rattle.step_model.specs.Step.{Issued, node_step, issued, setting_of, before_issue, ports_step}
use Rattle.processor.specs.Issue.{and_happened}
use Rattle.net_model.specs.Links.{IsLinkBefore}
use Rattle.core_step.specs.declared.pin_levels.PinLevels.{PinLevels}
use Rattle.core_step.specs.PinLevels.{from_outside}
use Rattle.core_step.specs.Core.{CoreValue, StandsAt, SentBefore}
use Rattle.core_step.specs.Network.{NetworkRec, NetworkStands, Brings}

-- ---- The slots that link ends keep

-- what was credited before a slot was credited in it or earlier
slots_by : (slot : ℕ) (slots : List ℕ) → AllByRecursion (λ s. s < slot) slots → AllByRecursion (λ s. s ≤ slot) slots
slots_by slot [] h = tt
slots_by slot (s ∷ slots) h = (omega (arith, h.0), slots_by slot slots h.1)

credited_by : (slot : ℕ) (links : List (Option LinkRec)) → AllByRecursion (λ l. IfSome l (IsLinkBefore slot)) links → CreditedBy slot links
credited_by slot [] h = tt
credited_by slot (None ∷ links) h = (tt, credited_by slot links h.1)
credited_by slot (Some link ∷ links) h = (slots_by slot link.credited h.0.credited, credited_by slot links h.1)

-- a last token that was sent before a slot was sent in it or earlier, and one that was sent by then is before the next
sent_by_one : (slot : ℕ) (last : Option ℕ) → IfSome last (λ s. s < slot) → IfSome last (λ s. s ≤ slot)
sent_by_one slot None h = tt
sent_by_one slot (Some s) h = omega (arith, h)

pub sent_by : (slot : ℕ) (row : List (Option EndCounts)) → SentBefore slot row → SentBy slot row
sent_by slot [] h = tt
sent_by slot (None ∷ row) h = (tt, sent_by slot row h.1)
sent_by slot (Some counts ∷ row) h = (sent_by_one slot counts.last_sent h.0, sent_by slot row h.1)

sent_next_one : (slot : ℕ) (last : Option ℕ) → IfSome last (λ s. s ≤ slot) → IfSome last (λ s. s < slot + 1)
sent_next_one slot None h = tt
sent_next_one slot (Some s) h = omega (arith, h)

pub sent_before_next : (slot : ℕ) (row : List (Option EndCounts)) → SentBy slot row → SentBefore (slot + 1) row
sent_before_next slot [] h = tt
sent_before_next slot (None ∷ row) h = (tt, sent_before_next slot row h.1)
sent_before_next slot (Some counts ∷ row) h = (sent_next_one slot counts.last_sent h.0, sent_before_next slot row h.1)

-- slots that never fall are before a slot where the last one is
slots_before : (slot : ℕ) (slots : List ℕ) → NeverFall slots → IfSome (latest slots) (λ s. s < slot) → AllByRecursion (λ s. s < slot) slots
slots_before slot [] rises h = tt
slots_before slot (s ∷ []) rises h = (h, tt)
slots_before slot (s ∷ r ∷ rest) rises h =
    let others = slots_before slot (r ∷ rest) rises.1 h in
    (omega (arith, rises.0, others.0), others)

slots_before_next : (slot : ℕ) (slots : List ℕ) → AllByRecursion (λ s. s ≤ slot) slots → AllByRecursion (λ s. s < slot + 1) slots
slots_before_next slot [] h = tt
slots_before_next slot (s ∷ slots) h = (omega (arith, h.0), slots_before_next slot slots h.1)

link_before : (slot : ℕ) (counts : EndCounts) (link : LinkRec) → CountsOf counts link → IfSome counts.last_sent (λ s. s < slot + 1) → AllByRecursion (λ s. s ≤ slot) link.credited → IsLinkBefore (slot + 1) link
link_before slot counts link of sent credited = record {
  sent = slots_before (slot + 1) link.sent of.rises (subst (λ last. IfSome last (λ s. s < slot + 1)) of.last_sent sent);
  credited = slots_before_next slot link.credited credited;
}

pub links_before : (slot : ℕ) (row : List (Option EndCounts)) (links : List (Option LinkRec)) → AllCountsOf row links → SentBefore (slot + 1) row → CreditedBy slot links → AllByRecursion (λ l. IfSome l (IsLinkBefore (slot + 1))) links
links_before slot [] [] of sent credited = tt
links_before slot [] (link ∷ links) of sent credited = absurd of
links_before slot (end ∷ row) [] of sent credited = absurd of
links_before slot (None ∷ row) (None ∷ links) of sent credited = (tt, links_before slot row links of.1 sent.1 credited.1)
links_before slot (None ∷ row) (Some link ∷ links) of sent credited = absurd of.0
links_before slot (Some counts ∷ row) (None ∷ links) of sent credited = absurd of.0
links_before slot (Some counts ∷ row) (Some link ∷ links) of sent credited =
    (link_before slot counts link of.0 sent.0 credited.0, links_before slot row links of.1 sent.1 credited.1)

-- ---- The phases

-- what contracts see of a core with these parts
abbrev value_with : Fixed → CoreRec → PinLevels → NetworkRec → CoreValue
value_with fixed core levels n = record { fixed = fixed; core = core; levels = levels; inputs = n.switch.inputs; links = n.links }

-- the node as its slot begins, after the edges
abbrev pub edged : NodeRec → Slot → PinView → AtWork
edged rec slot pins = ports_step slot pins (slot_begins rec)

-- a core that stands for a node before a slot stands for the node after the edges, which change ports alone
pub begins : (fixed : Fixed) (core : CoreRec) (levels : PinLevels) (n : NetworkRec) (rec : NodeRec) (slot : ℕ) (pins : PinView) (chans : List ChanRec) (out : Emitted)
    → StandsAt (value_with fixed core levels n) rec slot → chans ≡ core.chans → out ≡ emitted_in slot (edged rec slot pins)
    → NetworkStands slot n chans out (edged rec slot pins)
begins fixed core levels n rec slot pins chans out at same gives = record {
  parts = record {
    inputs = at.stands.inputs;
    chans = same ∙ ap (λ (c : CoreRec). c.chans) at.stands.core;
    links = at.stands.links;
    credited = credited_by slot rec.links at.links;
  };
  emitted = gives;
}
