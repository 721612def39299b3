-- A node that has seen more of an arc that comes to it.
use Rattle.std.proofs.Common.{◌≡◌, ◌+◌, ◌-◌, ◌<◌, ◌≤◌, false, true, Option, Some, None, List, ◌++◌, length, get_or, slice_index_or, refl, sym, ◌∙◌, subst, arith, inl, inr}
use Rattle.std.specs.Prelude.{slice_set, IsSome, is_some}
use Rattle.std.proofs.lemmas.Bool.{cases_eq}
use Rattle.std.proofs.lemmas.List.{length-set, get_or-set_same, get_or-set_other}
use Rattle.xs_base.specs.Numbers.{Slot, Position, LinkNumber, EndNumber}
use Rattle.xs_base.specs.declared.entry.Entry.{Entry}
use Rattle.sys_plan.specs.Plan.{PlanRec, IsPlan, incoming, delay_of}
use Rattle.sys_plan.proofs.Routes.{incoming-end}
use Rattle.serial_model.specs.Serial.{history}
use Rattle.locality_laws.proofs.Links.{histories_grow}
use Rattle.ahead_limits.specs.declared.horizon.Seen.{Seen}
use Rattle.ahead_limits.specs.Horizon.{HorizonRec, seen_at, seen_by_end, seen_to}
use Rattle.node_seats.specs.declared.pins.Pins.{Pins}
use Rattle.node_seats.specs.declared.seat.Seat.{Seat}
use Rattle.node_runners.specs.declared.inlets.Inlets.{Inlets}
use Rattle.node_runners.specs.Queue.{InletRec, longer}
use Rattle.node_runners.specs.Ends.{IsThere, inlet_by, heard_at}
use Rattle.node_runners.specs.Sent.{OutletsRec}
use Rattle.node_runners.specs.Joins.{ComesTo}
use Rattle.node_runners.specs.Inside.{Hears, HasLinks, IsRunner}
use Rattle.node_runners.proofs.Ends.{heard-here, heard-other, heard-links, heard-wires, heard-ports}

none_is_not : false ≡ true → ⊥
none_is_not h = cc

module _ (plan : PlanRec) (clock to : Slot) (entries : List Entry) where
  more-here : (l : Option LinkNumber) (s : Option Seen) (i : InletRec) → Hears plan clock l s i → is_some l ≡ true → seen_by_end s ≤ to
      → ((link : LinkNumber) → l ≡ Some link → entries ≡ history plan link (seen_by_end s) to) → Hears plan clock l (seen_to to s) (longer i entries)
  more-here None s i h some on own = absurd (none_is_not some)
  more-here (Some link) None i h some on own = absurd h
  more-here (Some link) (Some s) i h some on own = record {
    delay = h.delay;
    inlet_delay = h.inlet_delay;
    queue = (λ k. h.queue k ++ own link refl k) ∙ histories_grow plan link (clock - delay_of plan link) s.seen to (omega (arith, h.ahead, h.delay)) on;
    ahead = omega (arith, h.ahead, on);
  }

  module _ (n : Position) (end : EndNumber) (horizon : HorizonRec) (inlets : Inlets) (outlets : OutletsRec) (published : List Slot) (is : HasLinks plan n clock horizon inlets outlets published)
      (some : IsSome (incoming plan n end)) (on : seen_at horizon end ≤ to)
      (own : (link : LinkNumber) → incoming plan n end ≡ Some link → entries ≡ history plan link (seen_at horizon end) to) where
    inside_by : (l : Option LinkNumber) → incoming plan n end ≡ l → is_some l ≡ true → IsThere end (length inlets.links.ends) (length inlets.wires)
    inside_by None at there = absurd (none_is_not there)
    inside_by (Some link) at there = is.reached end link at

    pub inside : IsThere end (length inlets.links.ends) (length inlets.wires)
    inside = inside_by (incoming plan n end) refl some

    end_by : IsPlan plan → (l : Option LinkNumber) → incoming plan n end ≡ l → is_some l ≡ true → end < length horizon.ends
    end_by plan_is None at there = absurd (none_is_not there)
    end_by plan_is (Some link) at there = omega (arith, incoming-end plan plan_is n end link at, is.all_ends)

    abbrev sees : List (Option Seen)
    sees = slice_set horizon.ends end (seen_to to (slice_index_or horizon.ends end None))

    abbrev pub inlets_after : Inlets
    inlets_after = heard_at end entries inlets

    here : IsPlan plan → Hears plan clock (incoming plan n end) (get_or sees end None) (inlet_by inlets_after end)
    here plan_is =
        subst (λ (s : Option Seen). Hears plan clock (incoming plan n end) s (inlet_by inlets_after end))
        (sym (get_or-set_same horizon.ends end (seen_to to (slice_index_or horizon.ends end None)) None (end_by plan_is (incoming plan n end) refl some)))
        (subst (Hears plan clock (incoming plan n end) (seen_to to (slice_index_or horizon.ends end None))) (sym (heard-here inlets end entries inside))
        (more-here (incoming plan n end) (slice_index_or horizon.ends end None) (inlet_by inlets end) (is.hears end) some on own))

    there : (k : EndNumber) → (k ≡ end → ⊥) → Hears plan clock (incoming plan n k) (get_or sees k None) (inlet_by inlets_after k)
    there k ne =
        subst (λ (s : Option Seen). Hears plan clock (incoming plan n k) s (inlet_by inlets_after k)) (sym (get_or-set_other horizon.ends end k (seen_to to (slice_index_or horizon.ends end None)) None ne))
        (subst (Hears plan clock (incoming plan n k) (get_or horizon.ends k None)) (sym (heard-other inlets end entries k ne)) (is.hears k))

    links-taken : IsPlan plan → HasLinks plan n clock (record horizon { ends = sees }) inlets_after outlets published
    links-taken plan_is = record {
      all_ends = length-set horizon.ends end (seen_to to (slice_index_or horizon.ends end None)) ∙ is.all_ends;
      few_inlets = omega (arith, heard-links inlets end entries, is.few_inlets);
      few_batches = is.few_batches;
      all_published = is.all_published;
      hears = λ k. elim (cases_eq k end) [
        | inl same ↦ subst (λ j. Hears plan clock (incoming plan n j) (get_or sees j None) (inlet_by inlets_after j)) (sym same) (here plan_is)
        | inr ne ↦ there k ne
      ];
      reached = λ k link at.
          let r = is.reached k link at in
          record { link = λ l. omega (arith, r.link l, heard-links inlets end entries); wire = λ l. omega (arith, r.wire l, heard-wires inlets end entries) };
      tells = is.tells;
      behind = is.behind;
    }

    pub runner-taken : (seat : Seat) (pins : Pins) (later : HorizonRec) (after : Inlets) → IsRunner plan n clock horizon seat pins inlets outlets published → later ≡ record horizon { ends = sees }
        → after ≡ inlets_after → IsRunner plan n clock later seat pins after outlets published
    runner-taken seat pins later after r is_later is_after =
        subst (λ (h : HorizonRec). IsRunner plan n clock h seat pins after outlets published) (sym is_later)
        (subst (λ (is : Inlets). IsRunner plan n clock (record horizon { ends = sees }) seat pins is outlets published) (sym is_after) (record {
          plan_is = r.plan_is;
          within = r.within;
          small = r.small;
          seat_is = r.seat_is;
          pins_are = r.pins_are;
          noted = r.noted;
          links = links-taken r.plan_is;
          wires = record {
            come = λ k within. subst (ComesTo plan n (8 + k)) (sym (heard-ports inlets end entries inside k)) (r.wires.come k (omega (arith, within, heard-wires inlets end entries)));
            came = r.wires.came;
            leave = r.wires.leave;
            told = r.wires.told;
          };
        }))
