-- The system that a snapshot of the serial machine says, and what is told at the end of a run that goes on from it.
use Rattle.std.proofs.Common.{ℕ, ◌≡◌, ◌+◌, ◌-◌, ◌≤◌, List, [], ◌∷◌, ◌++◌, length, map, take, refl, ap, sym, ◌∙◌, arith}
use Rattle.xs_base.specs.Numbers.{Slot}
use Rattle.xs_base.specs.declared.entry.Entry.{Entry}
use Rattle.xs_model.specs.declared.event.Event.{Event}
use Rattle.xs_model.specs.FirstEvents.{kept_at_most, first_events, left_out}
use Rattle.xs_model.specs.Record.{NodeRec}
use Rattle.sys_plan.specs.Plan.{PlanRec, Arc, arcs}
use Rattle.serial_model.specs.Serial.{SystemRec, Begun, serial, since}
use Rattle.trace_model.specs.EventOrder.{merged}
use Rattle.trace_model.specs.Trace.{EndRec, sent_in, end_of, events_in_order, end_text, event_lines, lines_after_events, end_line}
use Rattle.core_step.specs.States.{node_rec}
use Rattle.snap_parts.specs.declared.node.SnapNode.{SnapNode}
use Rattle.snap_parts.specs.Parts.{LogRec}
use Rattle.snap_parts.specs.Snaps.{begun_of}
use Rattle.snap_model.specs.Saved.{saved_nodes, saved_level, saved_logs, saved_at}
use Rattle.snap_model.specs.Rest.{kept_after, more_after, all_sent_after, end_after, rest_text, trace_from}
use Rattle.rest_laws.specs.Rest.{said, AreSaid, SaidRestIsTrace}
use Rattle.rest_laws.proofs.Events.{from_it, kept_later, merged-from, more_later, more-from}
use Rattle.rest_laws.proofs.Histories.{flights, levels, shown_level, all_since, sent-all}
use Rattle.rest_laws.proofs.Steps.{core_at}
use Rattle.rest_laws.proofs.Along.{IsReached, reached, none_told, IsAlong, begun, along}
use Rattle.rest_laws.proofs.Texts.{ToldAlike, text_same}

-- ---- The parts of a snapshot

nodes_said : (recs : List NodeRec) (events : List (List Event)) → length recs ≡ length events → map (λ (node : SnapNode). node_rec node.state) (saved_nodes recs events) ≡ map said recs
nodes_said [] events h = refl
nodes_said (rec ∷ recs) [] h = absurd (omega (arith, h))
nodes_said (rec ∷ recs) (told ∷ events) h = ap (λ (rest : List NodeRec). said rec ∷ rest) (nodes_said recs events (omega (arith, h)))

told_none : (recs : List NodeRec) (events : List (List Event)) → length recs ≡ length events → map (λ (node : SnapNode). []) (saved_nodes recs events) ≡ none_told events
told_none [] [] h = refl
told_none [] (told ∷ events) h = absurd (omega (arith, h))
told_none (rec ∷ recs) [] h = absurd (omega (arith, h))
told_none (rec ∷ recs) (told ∷ events) h = ap (λ (rest : List (List Event)). [] ∷ rest) (told_none recs events (omega (arith, h)))

module _ (slot : Slot) where
  logs_flights : (ds : List Arc) (histories : List (List Entry)) → map (λ (log : LogRec). log.entries) (saved_logs slot ds histories) ≡ flights slot ds histories
  logs_flights [] histories = refl
  logs_flights (d ∷ ds) [] = refl
  logs_flights (d ∷ ds) (history ∷ histories) = λ i. flights slot (d ∷ []) (history ∷ []) ++ logs_flights ds histories i

  level_is : (d : Arc) (history : List Entry) → saved_level slot d.delay d.joins history ≡ shown_level slot d.delay d.joins history
  level_is d history = refl

  logs_levels : (ds : List Arc) (histories : List (List Entry)) → map (λ (log : LogRec). log.level) (saved_logs slot ds histories) ≡ levels slot ds histories
  logs_levels [] histories = refl
  logs_levels (d ∷ ds) [] = refl
  logs_levels (d ∷ ds) (history ∷ histories) = λ i. level_is d history i ∷ logs_levels ds histories i

  sent_is : (ds : List Arc) (histories rests : List (List Entry)) → all_sent_after slot (saved_logs slot ds histories) rests ≡ all_since slot ds histories rests
  sent_is [] histories rests = refl
  sent_is (d ∷ ds) [] rests = refl
  sent_is (d ∷ ds) (history ∷ histories) [] = refl
  sent_is (d ∷ ds) (history ∷ histories) (rest ∷ rests) = λ i. all_since slot (d ∷ []) (history ∷ []) (rest ∷ []) ++ sent_is ds histories rests i

  kept_is : (recs : List NodeRec) (olds news : List (List Event)) → length recs ≡ length olds → kept_after (saved_nodes recs olds) news ≡ kept_later slot kept_at_most olds news
  kept_is [] [] news h = refl
  kept_is [] (old ∷ olds) news h = absurd (omega (arith, h))
  kept_is (rec ∷ recs) [] news h = absurd (omega (arith, h))
  kept_is (rec ∷ recs) (old ∷ olds) [] h = refl
  kept_is (rec ∷ recs) (old ∷ olds) (new ∷ news) h = ap (λ (rest : List (List Event)). take (kept_at_most - length (first_events old)) new ∷ rest) (kept_is recs olds news (omega (arith, h)))

more_is : (recs : List NodeRec) (olds news : List (List Event)) → length recs ≡ length olds → more_after (saved_nodes recs olds) news ≡ more_later kept_at_most olds news
more_is [] [] news h = refl
more_is [] (old ∷ olds) news h = absurd (omega (arith, h))
more_is (rec ∷ recs) [] news h = absurd (omega (arith, h))
more_is (rec ∷ recs) (old ∷ olds) [] h = refl
more_is (rec ∷ recs) (old ∷ olds) (new ∷ news) h = ap (λ (rest : List ℕ). (left_out old + (length new - (kept_at_most - length (first_events old)))) ∷ rest) (more_is recs olds news (omega (arith, h)))

-- ---- A run that goes on from it

module _ (plan : PlanRec) (from : Slot) (are : AreSaid from (serial plan from).nodes) where
  abbrev old : SystemRec
  old = serial plan from

  abbrev is_old : IsReached plan from old
  is_old = reached plan from

  as_many : length old.nodes ≡ length old.events
  as_many = is_old.many_nodes ∙ sym is_old.many_events

  abbrev begins : Begun
  begins = begun plan from (map said old.nodes) are.alike are.before

  begins_is : begun_of (saved_at plan from) ≡ begins
  begins_is = λ i. record {
    slot = from;
    system = record { nodes = nodes_said old.nodes old.events as_many i; histories = logs_flights from (arcs plan) old.histories i; events = told_none old.nodes old.events as_many i };
    shown = logs_levels from (arcs plan) old.histories i;
  }

  -- what is told at the end
  module _ (slot : Slot) (rest whole : SystemRec) (goes : IsAlong plan from old is_old slot rest whole) where
    abbrev one : EndRec
    one = end_after (saved_at plan from) rest

    abbrev other : EndRec
    other = end_of whole

    events_are : events_in_order one ≡ from_it from (events_in_order other)
    events_are =
        ap merged (kept_is from old.nodes old.events rest.events as_many)
        ∙ sym (ap (λ (all : List (List Event)). from_it from (merged (map first_events all))) goes.events
        ∙ merged-from from kept_at_most old.events rest.events is_old.earlier goes.are_from)

    sent_are : one.sent ≡ other.sent
    sent_are =
        sent_is from (arcs plan) old.histories rest.histories
        ∙ (ap (all_since from (arcs plan) old.histories) goes.rest_histories
        ∙ (sent-all from (arcs plan) old.histories goes.later is_old.many_histories goes.many_later is_old.steady goes.are_later
        ∙ sym (ap (map sent_in) goes.whole_histories)))

    more_are : one.more ≡ other.more
    more_are =
        more_is old.nodes old.events rest.events as_many
        ∙ sym (ap (map left_out) goes.events ∙ more-from kept_at_most old.events rest.events)

    told : ToldAlike one other
    told = record { cores = λ k. core_at rest.nodes whole.nodes k goes.alike; more = more_are; sent = sent_are }

    rest_is : (slots : ℕ) → end_text plan slots one ≡ event_lines plan.nodes (from_it from (events_in_order other)) ++ (lines_after_events plan other ++ end_line slots)
    rest_is slots = text_same plan one other told slots (from_it from (events_in_order other)) events_are

  rest_is_trace : (slots : ℕ) → from ≤ slots → rest_text plan (saved_at plan from) slots ≡ trace_from plan from slots
  unfolding rest_text trace_from
  rest_is_trace slots past =
      let here : from + (slots - from) ≡ slots = omega (arith, past) in
      ap (λ (b : Begun). end_text plan slots (end_after (saved_at plan from) (since plan b (slots - from)))) begins_is
      ∙ (rest_is (from + (slots - from)) (since plan begins (slots - from)) (serial plan (from + (slots - from))) (along plan from (map said old.nodes) are.alike are.before (slots - from)) slots
      ∙ ap (λ (slot : Slot). event_lines plan.nodes (from_it from (events_in_order (end_of (serial plan slot)))) ++ (lines_after_events plan (end_of (serial plan slot)) ++ end_line slots)) here)

pub said_rest_is_trace : SaidRestIsTrace
said_rest_is_trace plan slot slots are past = rest_is_trace plan slot are slots past
