-- The directed links of the serial machine: what holds of each before each slot.
use Rattle.std.proofs.Common.{◌≡◌, ℕ, zero, suc, ◌+◌, ◌≤◌, Bool, Option, Some, List, [], ◌++◌, length, drop, slice_get, slice_index, sym, ap, ◌∙◌, subst, arith, length-append}
use Rattle.std.proofs.Math.Seq.{drop-append_seam}
use Rattle.std.proofs.lemmas.Option.{get_or_from_slice_get}
use Rattle.xs_base.specs.declared.token.Token.{Token}
use Rattle.xs_base.specs.declared.entry.Entry.{Entry}
use Rattle.xs_model.specs.Record.{NodeRec, LinkRec, first_node}
use Rattle.net_model.specs.Links.{fresh_link}
use Rattle.net_model.specs.Switch.{link_at}
use Rattle.sys_plan.specs.Plan.{PlanRec, Arc, IsPlan, link_arcs, arcs, gaps_of}
use Rattle.step_model.specs.Start.{node_of}
use Rattle.step_model.specs.Step.{Stepped}
use Rattle.serial_model.specs.Serial.{SystemRec, system_at_start, system_step, steps_of, serial, sent_by, arriving, token_among, credit_among}
use Rattle.link_laws.specs.LinkSlot.{SlotAtLinkEnd}
use Rattle.link_laws.specs.Travel.{Travel, travel_of, link_end, opposite, OfEnds, OfEachLink, Window, Arrives, Order, tokens_of, credits_of, in_flight}
use Rattle.link_laws.proofs.TravelLists.{tokens-arrive, credits-arrive}
use Rattle.link_laws.proofs.TravelEnds.{token-buffer, credit-credited, counted, counted-length}
use Rattle.link_laws.proofs.TravelKept.{Kept, kept-at-start, sent-parts, token-fits, credit-is-due, arrive-keeps, leave-keeps}
use Rattle.sys_plan.proofs.Routes.{IsDirected, directed, link-arc, gap-at}
use Rattle.link_laws.proofs.SerialPlan.{turned, opposite-at}
use Rattle.link_laws.proofs.SerialSteps.{found, map-at, node-at-start, link-at-start, step_at, steps-at, end-slot, emitted-at, history-at, IsHistory, token-at, credit-at}

-- directed link l of a system before a slot: its nodes, its link ends, and its histories
pub record Joined (system : SystemRec) (slot l : ℕ) (d : Arc) : Type 0 where
  pub from_node : NodeRec
  pub to_node : NodeRec
  pub sender : LinkRec
  pub receiver : LinkRec
  pub forth : List Entry
  pub back : List Entry
  pub taken : List Token
  pub from_is : slice_get system.nodes d.from ≡ Some from_node
  pub to_is : slice_get system.nodes d.to ≡ Some to_node
  pub sender_is : link_at from_node d.from_end ≡ Some sender
  pub receiver_is : link_at to_node d.to_end ≡ Some receiver
  pub forth_is : slice_get system.histories l ≡ Some forth
  pub back_is : slice_get system.histories (opposite l) ≡ Some back
  pub kept : Kept slot d.delay sender receiver forth back taken

module _ (plan : PlanRec) (is : IsPlan plan) (l : ℕ) (d : Arc) (here : slice_get (link_arcs plan.links) l ≡ Some d) where
  abbrev there : slice_get (link_arcs plan.links) (opposite l) ≡ Some (turned d)
  there = opposite-at plan.links l d here

  abbrev within : IsDirected (length plan.nodes) d
  within = directed plan is l d here

  -- their places among all arcs
  forth_arc : slice_get (arcs plan) l ≡ Some d
  forth_arc = link-arc plan is l d here

  back_arc : slice_get (arcs plan) (opposite l) ≡ Some (turned d)
  back_arc = link-arc plan is (opposite l) (turned d) there

  from_gap : 1 ≤ slice_index (gaps_of plan d.from) d.from_end
  from_gap = omega (arith, gap-at plan is l d here, within.gap)

  to_gap : 1 ≤ slice_index (gaps_of plan d.to) d.to_end
  to_gap = omega (arith, gap-at plan is (opposite l) (turned d) there, within.gap)

  joined-start : Joined (system_at_start plan) 0 l d
  joined-start =
      let from = found plan.nodes d.from within.from in
      let to = found plan.nodes d.to within.to in
      record {
        from_node = node_of from.0 (gaps_of plan d.from);
        to_node = node_of to.0 (gaps_of plan d.to);
        sender = fresh_link;
        receiver = fresh_link;
        forth = [];
        back = [];
        taken = [];
        from_is = node-at-start plan 0 plan.nodes d.from d.from from.0 (omega arith) from.1;
        to_is = node-at-start plan 0 plan.nodes d.to d.to to.0 (omega arith) to.1;
        sender_is = link-at-start plan d.from d.from_end from.0 within.from_end from_gap;
        receiver_is = link-at-start plan d.to d.to_end to.0 within.to_end to_gap;
        forth_is = map-at (λ (d : Arc). []) (arcs plan) l d forth_arc;
        back_is = map-at (λ (d : Arc). []) (arcs plan) (opposite l) (turned d) back_arc;
        kept = kept-at-start d.delay;
      }

  module _ (at_end : SlotAtLinkEnd) (system : SystemRec) (slot : ℕ) (j : Joined system slot l d) where
    abbrev steps : List Stepped
    steps = steps_of plan slot system

    -- what arrives at the sender, and at the receiver
    abbrev back_token : Option Token
    back_token = token_among (arriving slot d.delay j.back)

    abbrev back_credit : Bool
    back_credit = credit_among (arriving slot d.delay j.back)

    abbrev forth_token : Option Token
    forth_token = token_among (arriving slot d.delay j.forth)

    abbrev forth_credit : Bool
    forth_credit = credit_among (arriving slot d.delay j.forth)

    forth-history : IsHistory plan system.histories slot l d j.forth
    forth-history = record { plan_is = is; here = here; history_is = j.forth_is; inside = within.to_end }

    back-history : IsHistory plan system.histories slot (opposite l) (turned d) j.back
    back-history = record { plan_is = is; here = there; history_is = j.back_is; inside = within.from_end }

    joined-next : Joined (system_step plan slot system) (suc slot) l d
    joined-next =
        let from = found plan.nodes d.from within.from in
        let to = found plan.nodes d.to within.to in
        let from_step = step_at plan system.histories slot d.from from.0 j.from_node in
        let to_step = step_at plan system.histories slot d.to to.0 j.to_node in
        let from_at = steps-at plan system.histories slot 0 plan.nodes system.nodes d.from d.from from.0 j.from_node (omega arith) from.1 j.from_is in
        let to_at = steps-at plan system.histories slot 0 plan.nodes system.nodes d.to d.to to.0 j.to_node (omega arith) to.1 j.to_is in
        let token_back = token-at plan system.histories slot (opposite l) (turned d) j.back back-history in
        let credit_back = credit-at plan system.histories slot (opposite l) (turned d) j.back back-history in
        let token_forth = token-at plan system.histories slot l d j.forth forth-history in
        let credit_forth = credit-at plan system.histories slot l d j.forth forth-history in
        let sender_slot = end-slot plan system.histories slot at_end d.from d.from_end from.0 j.from_node j.sender back_token back_credit in
        let receiver_slot = end-slot plan system.histories slot at_end d.to d.to_end to.0 j.to_node j.receiver forth_token forth_credit in
        let sends = sender_slot within.from_end from_gap j.sender_is token_back credit_back in
        let receives = receiver_slot within.to_end to_gap j.receiver_is token_forth credit_forth in
        let forth_at = history-at slot system.nodes steps (arcs plan) system.histories l d j.forth within.joins forth_arc j.forth_is in
        let back_at = history-at slot system.nodes steps (arcs plan) system.histories (opposite l) (turned d) j.back within.joins back_arc j.back_is in
        let arrived = arrive-keeps slot d.delay j.sender j.receiver j.forth j.back j.taken j.kept back_token forth_credit in
        record {
          from_node = from_step.rec;
          to_node = to_step.rec;
          sender = sends.0;
          receiver = receives.0;
          forth = j.forth ++ sent_by slot from_step.emitted d.from_end;
          back = j.back ++ sent_by slot to_step.emitted d.to_end;
          taken = _;
          from_is = map-at (λ (s : Stepped). s.rec) steps d.from from_step from_at;
          to_is = map-at (λ (s : Stepped). s.rec) steps d.to to_step to_at;
          sender_is = sends.1;
          receiver_is = receives.1;
          forth_is = forth_at ∙ ap (λ e. Some (j.forth ++ sent_by slot e d.from_end)) (emitted-at steps d.from from_step from_at);
          back_is = back_at ∙ ap (λ e. Some (j.back ++ sent_by slot e d.to_end)) (emitted-at steps d.to to_step to_at);
          kept = leave-keeps slot d.delay _ _ j.forth j.back j.taken arrived _ _ sends.0 receives.0 _ _ _ _ sends.2 receives.2 within.delay;
        }

  pub joined : SlotAtLinkEnd → (slot : ℕ) → Joined (serial plan slot) slot l d
  unfolding serial
  joined at_end zero = joined-start
  joined at_end (suc slot) = joined-next at_end (serial plan slot) slot (joined at_end slot)

-- ---- What that says of the directed link

module _ (system : SystemRec) (slot l : ℕ) (d : Arc) (j : Joined system slot l d) where
  abbrev travel : Travel
  travel = record { slot = slot; delay = d.delay; sender = Some j.sender; receiver = Some j.receiver; forth = j.forth; back = j.back }

  end-is : (node end : ℕ) (rec : NodeRec) (link : LinkRec) → slice_get system.nodes node ≡ Some rec → link_at rec end ≡ Some link → link_end system node end ≡ Some link
  end-is node end rec link h g = ap (λ (r : NodeRec). link_at r end) (get_or_from_slice_get system.nodes node rec (first_node 0 0 []) h) ∙ g

  travel-is : travel_of system slot l d ≡ travel
  travel-is =
      let sender = end-is d.from d.from_end j.from_node j.sender j.from_is j.sender_is in
      let receiver = end-is d.to d.to_end j.to_node j.receiver j.to_is j.receiver_is in
      let forth = get_or_from_slice_get system.histories l j.forth [] j.forth_is in
      let back = get_or_from_slice_get system.histories (opposite l) j.back [] j.back_is in
      λ i. record { slot = slot; delay = d.delay; sender = sender i; receiver = receiver i; forth = forth i; back = back i }

  abbrev Holds : (Travel → LinkRec → LinkRec → Type 0) → Type 0
  Holds holds = let t = travel_of system slot l d in OfEnds holds t t.sender t.receiver

  of-ends : (holds : Travel → LinkRec → LinkRec → Type 0) → holds travel j.sender j.receiver → Holds holds
  of-ends holds h = subst (λ (t : Travel). OfEnds holds t t.sender t.receiver) (sym travel-is) h

  abbrev k : Kept slot d.delay j.sender j.receiver j.forth j.back j.taken
  k = j.kept

  parts : length j.sender.sent ≡ credits_of j.back + (length j.receiver.buffer + length (tokens_of (in_flight slot d.delay j.forth)))
  parts = sent-parts slot d.delay j.sender j.receiver j.forth j.back j.taken k

  pub window-of : Holds Window
  window-of = of-ends Window (record {
    noted = k.sent;
    open_tokens = omega (arith, parts, k.credited);
    few = k.few;
    fits = omega (arith, parts, k.credited, k.few);
  })

  pub arrives-of : Holds Arrives
  arrives-of =
      let token = token_among (arriving slot d.delay j.forth) in
      let credit = credit_among (arriving slot d.delay j.back) in
      let one_token = tokens-arrive slot d.delay j.forth k.forth_history in
      let one_credit = credits-arrive slot d.delay j.back k.back_history in
      let fits = token-fits slot d.delay j.sender j.receiver j.forth j.back j.taken k in
      let due = credit-is-due slot d.delay j.sender j.receiver j.forth j.back j.taken k in
      of-ends Arrives (record {
        one_token = one_token;
        one_credit = k.back_history.one_credit slot;
        token_fits = omega (arith, ap length one_token, fits);
        credit_is_due = omega (arith, one_credit, due);
        token_kept = token-buffer token j.receiver fits ∙ ap (λ (ts : List Token). j.receiver.buffer ++ ts) (sym one_token);
        credit_counted = omega (arith, ap length (credit-credited slot credit j.sender due), length-append j.sender.credited (counted slot credit), counted-length slot credit, one_credit);
      })

  pub order-of : Holds Order
  order-of =
      let rest = j.receiver.buffer ++ tokens_of (in_flight slot d.delay j.forth) in
      let others : drop (credits_of j.back) (tokens_of j.forth) ≡ rest =
      ap (λ (l : List Token). drop (credits_of j.back) l) k.order ∙ ap (λ (n : ℕ). drop n (j.taken ++ rest)) (sym k.taken_credits) ∙ drop-append_seam j.taken rest in
      of-ends Order (record {
        taken = omega (arith, k.taken_credits, ap length k.order, length-append j.taken rest);
        others = others;
      })

-- for every plan, before every slot, for each directed link
module _ (at_end : SlotAtLinkEnd) where
  pub window-is-kept : OfEachLink Window
  window-is-kept plan slot l d is here = window-of (serial plan slot) slot l d (joined plan is l d here at_end slot)

  pub fits-where-it-arrives : OfEachLink Arrives
  fits-where-it-arrives plan slot l d is here = arrives-of (serial plan slot) slot l d (joined plan is l d here at_end slot)

  pub keeps-its-order : OfEachLink Order
  keeps-its-order plan slot l d is here = order-of (serial plan slot) slot l d (joined plan is l d here at_end slot)
