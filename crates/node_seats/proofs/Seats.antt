-- A node at work from slot to slot.
use Rattle.std.proofs.Common.{◌≡◌, ℕ, zero, suc, ◌+◌, ◌-◌, ◌<◌, ◌≤◌, List, [], ◌∷◌, ◌++◌, length, get_or, sym, ap, ◌∙◌, subst, arith}
use Rattle.xs_base.specs.declared.numbers.TheConstants.{EVENT_ROOM}
use Rattle.xs_model.specs.declared.event.Event.{Event}
use Rattle.xs_model.specs.declared.outside.Arrivals.{Arrivals}
use Rattle.xs_model.specs.declared.outside.PinView.{PinView}
use Rattle.xs_model.specs.Record.{NodeRec}
use Rattle.xs_model.specs.Outside.{Emitted}
use Rattle.sys_plan.specs.declared.NodePlan.{NodePlan}
use Rattle.sys_plan.specs.Plan.{PlanRec, WaysLead, AllWaysLead, gaps_of}
use Rattle.step_model.specs.Fixed.{Fixed}
use Rattle.step_model.specs.Start.{fixed_of}
use Rattle.step_model.specs.Step.{Stepped, node_step}
use Rattle.trace_lines.specs.Kept.{KeptEvents, Keeps}
use Rattle.quiet_laws.specs.Undisturbed.{undisturbed_until, ShowsAll}
use Rattle.core_step.specs.Core.{StandsAt, Passes}
use Rattle.core_step.specs.PinLevels.{from_outside}
use Rattle.node_seats.specs.declared.pins.Pins.{Pins}
use Rattle.node_seats.specs.declared.seat.Seat.{Seat}
use Rattle.node_seats.specs.Seats.{IsSeat, HasNoted, Plays, SameSeat, StepsOn, SkipsOn, step_of}

-- the ways of the node at a place lead on
pub ways-at : (plan : PlanRec) (n : ℕ) (nodes : List NodePlan) (k m : ℕ) (d : NodePlan) → AllWaysLead plan n nodes → k < length nodes → m ≡ n + k → WaysLead plan m (get_or nodes k d).ways
ways-at plan n [] k m d all h e = absurd (omega arith)
ways-at plan n (node ∷ nodes) zero m d all h e = let same : n ≡ m = omega arith in subst (λ (j : ℕ). WaysLead plan j node.ways) same all.0
ways-at plan n (node ∷ nodes) (suc k) m d all h e = ways-at plan (n + 1) nodes k m d all.1 (omega arith) (omega arith)

-- room that is made changes none of this
pub same-seat : (seat : Seat) (events : KeptEvents) → events.events ≡ seat.events.events → events.more ≡ seat.events.more → SameSeat seat (record seat { events = events })
same-seat seat events e m = λ i. record seat { events = record { events = e i; more = m i; spare = seat.events.spare } }

pub plays-same : (plan : PlanRec) (slot n : ℕ) (node : NodePlan) (seat after : Seat) (rec : NodeRec) (events : List Event) → Plays plan slot n node seat rec events → SameSeat seat after → Plays plan slot n node after rec events
plays-same plan slot n node seat after rec events plays same =
    let p = subst (λ (s : Seat). Plays plan slot n node s rec events) (sym same) plays in
    record {
      fixed = p.fixed;
      stands = p.stands;
      keeps = record { first = p.keeps.first; rest = p.keeps.rest };
    }

pub ready-same : (slot : ℕ) (seat after : Seat) → IsSeat slot seat → SameSeat seat after → IsSeat slot after
ready-same slot seat after ready same =
    let k = subst (IsSeat slot) (sym same) ready in
    record {
      before = k.before;
      more = k.more;
    }

pub noted-same : (slot : ℕ) (pins : Pins) (seat after : Seat) → HasNoted slot pins seat → SameSeat seat after → HasNoted slot pins after
noted-same slot pins seat after noted same =
    let k = subst (HasNoted slot pins) (sym same) noted in
    λ less. k less

-- where the script was not looked at, the node has noted what its pins show
pub noted-still : (slot : ℕ) (pins looked : Pins) (seat : Seat) → HasNoted slot pins seat → (slot < pins.next) × (looked.view ≡ pins.view) → seat.core.levels ≡ from_outside looked.view
noted-still slot pins looked seat noted same = noted same.0 ∙ ap from_outside (sym same.1)

-- a slot of a node's core, whose events are kept then, is one of the node
pub steps : (slot : ℕ) (arrivals : Arrivals) (pins : PinView) (before after : Seat) (given : List Event)
    → Passes slot arrivals pins before.core after.core after.given → IsSeat slot before → given ≡ after.given.events → length given ≤ EVENT_ROOM
    → ((all : List Event) → Keeps before.events all → Keeps after.events (all ++ given)) → after.events.more ≤ before.events.more + length given
    → StepsOn slot arrivals pins before after
steps slot arrivals pins before after given passes seat is few keeps more = record {
  fixed = passes.fixed;
  stands = passes.step;
  given = passes.emissions;
  keeps = λ all h. subst (λ (es : List Event). Keeps after.events (all ++ es)) is (keeps all h);
  noted = passes.levels;
  next = record { before = passes.next; more = omega (arith, more, few, seat.more) };
}

-- a node that plays its part: its step is that of the plan's node
module _ (plan : PlanRec) (slot n : ℕ) (node : NodePlan) (seat : Seat) (rec : NodeRec) (events : List Event) (plays : Plays plan slot n node seat rec events) (arrivals : Arrivals) (pins : PinView) where
  abbrev pub own_step : Stepped
  own_step = node_step (fixed_of node (gaps_of plan n)) rec slot arrivals pins

  pub step-is : step_of slot arrivals pins seat rec ≡ own_step
  step-is = λ i. node_step (plays.fixed i) rec slot arrivals pins

  -- and that is what it gave
  pub given-is : (after : Seat) → StepsOn slot arrivals pins seat after → after.given ≡ own_step.emitted
  given-is after s = s.given rec plays.stands ∙ ap (λ (st : Stepped). st.emitted) step-is

  -- it plays its part in the next slot
  pub plays-next : (after : Seat) → StepsOn slot arrivals pins seat after → Plays plan (slot + 1) n node after own_step.rec (events ++ own_step.emitted.events)
  plays-next after s = record {
    fixed = s.fixed ∙ plays.fixed;
    stands = subst (λ (st : Stepped). StandsAt after.core st.rec (slot + 1)) step-is (s.stands rec plays.stands);
    keeps = subst (λ (es : List Event). Keeps after.events (events ++ es)) (ap (λ (g : Emitted). g.events) (given-is after s)) (s.keeps events plays.keeps);
  }

-- after quiet slots it plays its part in the slot after them, with the same events
pub plays-later : (plan : PlanRec) (from to n : ℕ) (node : NodePlan) (seat after : Seat) (rec : NodeRec) (events : List Event) (pins : ℕ → PinView) (last : PinView)
    → Plays plan from n node seat rec events → ((slot : ℕ) → ShowsAll (pins slot)) → pins (to - 1) ≡ last → SkipsOn from to last seat after
    → Plays plan to n node after (undisturbed_until (fixed_of node (gaps_of plan n)) rec from pins to) events
plays-later plan from to n node seat after rec events pins last plays all shows s = record {
  fixed = s.fixed ∙ plays.fixed;
  stands = subst (λ (f : Fixed). StandsAt after.core (undisturbed_until f rec from pins to) to) plays.fixed (s.stands rec pins plays.stands all shows);
  keeps = subst (λ (es : KeptEvents). Keeps es events) (sym s.events) plays.keeps;
}
