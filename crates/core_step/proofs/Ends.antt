-- The issue of a slot and its end: what they make of a core's fields is what they make of the node at work for which it stands.
use Rattle.std.proofs.Common.{◌≡◌, ◌+◌, ◌<◌, ℕ, List, sym, refl, ap, subst, ◌∙◌}
use Rattle.std.proofs.lemmas.List.{map-append}
use Rattle.xs_base.specs.Numbers.{Slot}
use Rattle.xs_base.specs.declared.numbers.TheConstants.{CHAN_ENDS}
use Rattle.xs_model.specs.declared.outside.Arrivals.{Arrivals}
use Rattle.xs_model.specs.declared.outside.PinView.{PinView}
use Rattle.xs_model.specs.declared.event.Event.{Event}
use Rattle.xs_model.specs.Record.{CoreRec}
use Rattle.xs_model.specs.Outside.{Emitted, in_slot}
use Rattle.xs_model.specs.AtWork.{AtWork, emitted_in}
use Rattle.xs_model.specs.Ports.{levels_of}
use Rattle.net_model.specs.Switch.{is_busy_among}
use Rattle.switch_routes.specs.Rows.{SentBy}
use Rattle.step_model.specs.Fixed.{Fixed}
use Rattle.step_model.specs.Effect.{Setting}
use Rattle.step_model.specs.Step.{Issued, node_step, before_issue, issued, setting_of}
use Rattle.processor.specs.Issue.{IsIssuedAt, and_happened}
use Rattle.core_step.specs.Core.{CoreValue, StandsAt, Passes}
use Rattle.core_step.specs.ToIssue.{StandsAtWork, ReachesIssue, ended, EndsSlot}
use Rattle.core_step.specs.declared.pin_levels.PinLevels.{PinLevels}
use Rattle.core_step.specs.declared.node_core.Core.TheInside.{Inside}
use Rattle.core_step.specs.PinLevels.{from_outside}
use Rattle.core_step.specs.Inside.{value_of}
use Rattle.core_step.proofs.Slot.{links_before, sent_before_next}

-- what the issue makes of a core with these fields, which gave this so far
pub record Issues (s : Inside) (slot : Slot) (pins : PinView) (gave : Emitted) : Type 0 where
  pub node : s.network.switch.id ≡ s.program.id
  pub sent : SentBy slot s.network.links
  pub after : CoreRec
  pub out : Emitted
  pub issue : (here : Setting) → IsIssuedAt s.program slot pins (λ c. is_busy_among s.network.switch.inputs c) here → after ≡ (issued s.program.code here s.units).core
  pub events : (here : Setting) → IsIssuedAt s.program slot pins (λ c. is_busy_among s.network.switch.inputs c) here → out ≡ and_happened gave slot (issued s.program.code here s.units).happened

module _ (s : Inside) (slot : Slot) (pins : PinView) (gave : Emitted) (p : Issues s slot pins gave) where
  abbrev fixed : Fixed
  fixed = (value_of s).fixed

  -- what contracts see of the core then, when it keeps this of the pins' levels
  abbrev pub value_after : PinLevels → CoreValue
  value_after levels = record (value_of s) { core = p.after; levels = levels }

  module _ (m : AtWork) (at : StandsAtWork slot (value_of s) gave m) where
    abbrev here : Setting
    here = setting_of fixed slot pins m.rec

    -- the switch of the core says which channel ends are at work in the node
    busy_is : (c : ℕ) → c < CHAN_ENDS → here.is_busy c ≡ is_busy_among s.network.switch.inputs c
    busy_is c below = ap (λ inputs. is_busy_among inputs c) (sym at.inputs)

    issues_at : IsIssuedAt s.program slot pins (λ c. is_busy_among s.network.switch.inputs c) here
    issues_at = record { edition = refl; place = record { id = p.node; slot = refl; outside = refl; busy = busy_is } }

    -- the units then make the issue that the definition makes
    core_is : p.after ≡ (issued fixed.code here m.rec.core).core
    core_is = p.issue here issues_at ∙ ap (λ (core : CoreRec). (issued fixed.code here core).core) at.core

    stands : StandsAt (value_after (from_outside pins)) (ended fixed slot pins m).rec (slot + 1)
    stands = record {
      stands = record {
        core = core_is;
        levels = ap (λ (c : CoreRec). levels_of c.ports pins.level) core_is;
        inputs = at.inputs;
        links = at.links;
      };
      links = links_before slot s.network.links m.rec.links at.links (sent_before_next slot s.network.links p.sent) at.credited;
    }

    emitted : p.out ≡ emitted_in slot (ended fixed slot pins m)
    emitted =
        p.events here issues_at
        ∙ ap (λ (core : CoreRec). and_happened gave slot (issued fixed.code here core).happened) at.core
        ∙ ap (λ (o : Emitted). and_happened o slot (issued fixed.code here m.rec.core).happened) at.emitted
        ∙ ap (λ (events : List Event). let e : Emitted = record { events = events; tokens = m.tokens; credits = m.credits } in e) (sym (map-append (in_slot slot) m.happened (issued fixed.code here m.rec.core).happened))

  pub ends : (levels : PinLevels) → levels ≡ from_outside pins → EndsSlot slot pins (value_of s) gave (value_after levels) p.out
  ends levels noted = record {
    fixed = refl;
    stands = λ m at. subst (λ (l : PinLevels). StandsAt (value_after l) (ended fixed slot pins m).rec (slot + 1)) (sym noted) (stands m at);
    emitted = emitted;
    levels = noted;
    next = sent_before_next slot s.network.links p.sent;
  }

-- the phases before the issue, and the rest of the slot, are a slot
pub passes : (slot : Slot) (arrivals : Arrivals) (pins : PinView) (before issuing after : CoreValue) (gave given : Emitted)
    → ReachesIssue slot arrivals pins before issuing gave → EndsSlot slot pins issuing gave after given → Passes slot arrivals pins before after given
unfolding node_step
passes slot arrivals pins before issuing after gave given to by = record {
  fixed = by.fixed ∙ to.fixed;
  step =
      λ rec at.
      subst (λ (f : Fixed). StandsAt after (ended f slot pins (before_issue before.fixed rec slot arrivals pins)).rec (slot + 1)) to.fixed (by.stands _ (to.stands rec at));
  emissions =
      λ rec at.
      by.emitted _ (to.stands rec at)
      ∙ ap (λ (f : Fixed). emitted_in slot (ended f slot pins (before_issue before.fixed rec slot arrivals pins))) to.fixed;
  levels = by.levels;
  next = by.next;
}
