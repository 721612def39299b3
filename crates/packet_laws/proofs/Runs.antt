-- Of a directed link, over a run: what it has carried are packets, before the first slot and, slot by slot, ever after.
use Rattle.std.proofs.Common.{◌≡◌, ℕ, zero, suc, ◌+◌, ◌<◌, Bool, true, false, Option, Some, None, List, [], ◌∷◌, ◌++◌, length, take, map, get_or, slice_get, slice_index}
use Rattle.std.proofs.Common.{slice_index_or, replicate, refl, sym, ap, ap₂, subst, subst₂, ◌∙◌, append_assoc, length-append, arith}
use Rattle.std.proofs.lemmas.Bool.{and_from, eq-eqb, false≢true}
use Rattle.std.proofs.lemmas.Option.{get_or_from_slice_get}
use Rattle.std.specs.Int.{bit_at}
use Rattle.std.specs.Prelude.{option_to_list}
use Rattle.xs_base.specs.Numbers.{NodeId, Position, EndNumber}
use Rattle.xs_base.specs.declared.numbers.TheConstants.{LINK_ENDS, INPUTS}
use Rattle.xs_base.specs.declared.token.Token.{Token}
use Rattle.xs_model.specs.declared.dest.Dest.{Dest}
use Rattle.xs_model.specs.declared.outside.Arrivals.{Arrivals}
use Rattle.xs_model.specs.declared.outside.PinView.{PinView}
use Rattle.xs_model.specs.Record.{NodeRec, InputRec, Idle, Out, first_node}
use Rattle.net_model.specs.Ways.{Behind, first_difference, way_to}
use Rattle.net_model.specs.Links.{link_after_arrivals}
use Rattle.net_model.specs.Switch.{state_at, is_out_by, buffer_of_link, link_at}
use Rattle.sys_plan.specs.declared.NodePlan.{NodePlan}
use Rattle.sys_plan.specs.Plan.{PlanRec, Arc, IsPlan, link_arcs, arcs, gaps_of}
use Rattle.sys_plan.proofs.Routes.{IsDirected, directed, link-arc, gap-at}
use Rattle.step_model.specs.Fixed.{Fixed}
use Rattle.step_model.specs.Start.{fixed_of, node_of}
use Rattle.step_model.specs.Step.{Stepped}
use Rattle.serial_model.specs.Serial.{SystemRec, system_at_start, system_step, steps_of, serial, emitted_by, sent_by, arriving, token_among, credit_among, arrivals_at, pins_at, node_by}
use Rattle.xs_base.specs.declared.entry.Entry.{Entry}
use Rattle.link_laws.specs.LinkSlot.{arrived_at}
use Rattle.link_laws.specs.Travel.{opposite, tokens_of, credits_of, in_flight}
use Rattle.link_laws.proofs.SerialPlan.{turned, opposite-at}
use Rattle.link_laws.proofs.SerialSteps.{found, map-at, node-at-start, step_at, steps-at, emitted-at, history-at, IsHistory, token-at, credit-at}
use Rattle.link_laws.proofs.SlotAtEndStep.{slot_at_link_end}
use Rattle.link_laws.proofs.TravelEnds.{arrived}
use Rattle.link_laws.proofs.TravelKept.{arrive-keeps}
use Rattle.link_laws.proofs.TravelLists.{one_if, tokens-append, credits-append, sent-tokens, sent-credits}
use Rattle.link_laws.proofs.TravelSerial.{Joined, joined}
use Rattle.rank_model.specs.Next.{arc_at, no_arc, id_at, ways_at, nets_at, net_of, is_behind, leads_by}
use Rattle.packet_laws.specs.Packets.{Place, Between, place_of}
use Rattle.packet_laws.specs.Whole.{leads, carried, taken, Sends, SenderEnd, ReceiverEnd, IsOnWay, IsAt, WholePackets}
use Rattle.packet_laws.proofs.Places.{GoesOn, goes_on_past, place_of_none}
use Rattle.packet_laws.proofs.Nets.{way_of_net, nets_are_same}
use Rattle.packet_laws.proofs.Taking.{Took, node_takes}
use Rattle.packet_laws.proofs.Alike.{node_counts}
use Rattle.packet_laws.proofs.Sending.{node_sends}

-- ---- Rows of tokens, and inputs

take_part : (xs ys : List Token) (n : ℕ) → length xs ≡ n → take n (xs ++ ys) ≡ xs
take_part [] ys n e = ap (λ k. take k ys) (sym e)
take_part (x ∷ xs) ys zero e = absurd (omega (arith, e))
take_part (x ∷ xs) ys (suc n) e = ap (λ l. x ∷ l) (take_part xs ys n (omega (arith, e)))

idle_at : (n i : ℕ) → get_or (replicate n Idle) i Idle ≡ Idle
idle_at zero i = refl
idle_at (suc n) zero = refl
idle_at (suc n) (suc i) = idle_at n i

abbrev inputs : NodeRec → List InputRec
inputs rec = rec.inputs

abbrev many : NodeRec → ℕ
many rec = length rec.inputs

-- ---- A directed link

module _ (plan : PlanRec) (is : IsPlan plan) (l : ℕ) (d : Arc) (here : slice_get (link_arcs plan.links) l ≡ Some d) where
  abbrev passes : NodeId → Bool
  passes = leads plan l

  abbrev net : ℕ
  net = net_of plan l

  abbrev within : IsDirected (length plan.nodes) d
  within = directed plan is l d here

  abbrev there : slice_get (link_arcs plan.links) (opposite l) ≡ Some (turned d)
  there = opposite-at plan.links l d here

  its_arc : arc_at plan l ≡ d
  its_arc = get_or_from_slice_get (link_arcs plan.links) l d no_arc here

  from : (node : NodePlan) × (slice_get plan.nodes d.from ≡ Some node)
  from = found plan.nodes d.from within.from

  to : (node : NodePlan) × (slice_get plan.nodes d.to ≡ Some node)
  to = found plan.nodes d.to within.to

  -- ---- Ways

  -- what a node of the plan knows
  module _ (v : Position) (node : NodePlan) (node_is : slice_get plan.nodes v ≡ Some node) where
    known : {A : Type 0} (part : NodePlan → A) (none : A) → get_or (map part plan.nodes) v none ≡ part node
    known part none = get_or_from_slice_get (map part plan.nodes) v (part node) none (map-at part plan.nodes v node node_is)

    ways_to : (by : ℕ) (dest : NodeId) → way_to (id_at plan v) (ways_at plan v) (nets_at plan v) by dest ≡ way_to node.id node.ways node.nets by dest
    ways_to by dest i = way_to (known (λ x. x.id) 0 i) (known (λ x. x.ways) [] i) (known (λ x. x.nets) [] i) by dest

    -- a link end of a mask is on the way that the mask is of
    way_is : (by : ℕ) (dest : NodeId) (mask end : ℕ) → way_to node.id node.ways node.nets by dest ≡ Behind mask → bit_at mask end ≡ 1 →
        leads_by plan v by dest end ≡ true
    way_is by dest mask end way bit = ap (is_behind end) (ways_to by dest ∙ way) ∙ eq-eqb (bit_at mask end) 1 bit

  its_net : net ≡ slice_index from.0.nets d.from_end
  its_net =
      (λ i. slice_index (nets_at plan (its_arc i).from) (its_arc i).from_end)
      ∙ ap (λ nets. slice_index nets d.from_end) (known d.from from.0 from.1 (λ x. x.nets) [])

  net_there : slice_index to.0.nets d.to_end ≡ net
  net_there = sym (its_net ∙ nets_are_same plan is l d here from.0 to.0 from.1 to.1)

  -- the link is on the way to an id where it leaves its sender by a link end of the mask
  sender_ways : (by : ℕ) (dest : NodeId) (mask : ℕ) → way_to from.0.id from.0.ways from.0.nets by dest ≡ Behind mask →
      bit_at mask d.from_end ≡ 1 → passes dest ≡ true
  sender_ways by dest mask way bit =
      let behind : is_behind d.from_end (way_to from.0.id from.0.ways from.0.nets by dest) ≡ true =
      ap (is_behind d.from_end) way ∙ eq-eqb (bit_at mask d.from_end) 1 bit in
      let same : by ≡ net = sym (way_of_net from.0.ways from.0.nets by d.from_end (first_difference 16 from.0.id dest) behind) ∙ sym its_net in
      let leaves : leads_by plan d.from net dest d.from_end ≡ true =
      subst (λ n. leads_by plan d.from n dest d.from_end ≡ true) same (way_is d.from from.0 from.1 by dest mask d.from_end way bit) in
      and_from _ _ (eq-eqb (arc_at plan l).from (arc_at plan l).from refl)
      (ap (λ (x : Arc). leads_by plan x.from net dest x.from_end) its_arc ∙ leaves)

  receiver_ways : (dest : NodeId) (mask : ℕ) (e : EndNumber) → e < LINK_ENDS →
      way_to to.0.id to.0.ways to.0.nets (slice_index to.0.nets d.to_end) dest ≡ Behind mask → bit_at mask e ≡ 1 → IsOnWay plan d.to net dest e
  receiver_ways dest mask e low way bit =
      way_is d.to to.0 to.1 net dest mask e (ap (λ n. way_to to.0.id to.0.ways to.0.nets n dest) (sym net_there) ∙ way) bit

  -- ---- Before a slot

  abbrev At : Place → InputRec → Type 0
  At place state = IsAt (IsOnWay plan d.to net) net place state

  record Holds (system : SystemRec) : Type 0 where
    from_all : many (node_by system.nodes d.from) ≡ INPUTS
    to_all : many (node_by system.nodes d.to) ≡ INPUTS
    sent : SenderEnd plan system l d
    taken : ReceiverEnd plan system l d

  -- ---- Before the first one

  abbrev first : SystemRec
  first = system_at_start plan

  starts : (v : Position) (node : NodePlan) → slice_get plan.nodes v ≡ Some node → node_by first.nodes v ≡ node_of node (gaps_of plan v)
  starts v node node_is = get_or_from_slice_get first.nodes v _ (first_node 0 0 []) (node-at-start plan 0 plan.nodes v v node (omega arith) node_is)

  at_start : Holds first
  at_start =
      let from_node = starts d.from from.0 from.1 in
      let to_node = starts d.to to.0 to.1 in
      let nothing : carried first l ≡ [] =
      ap tokens_of (get_or_from_slice_get first.histories l [] [] (map-at (λ (d : Arc). []) (arcs plan) l d (link-arc plan is l d here))) in
      let credits = credits_of (slice_index_or first.histories (opposite l) []) in
      record {
        from_all = ap many from_node;
        to_all = ap many to_node;
        sent = subst₂ (Sends passes d.from_end) (sym (ap inputs from_node)) (sym nothing) first_sends;
        taken = record {
          place = Between;
          packets = ap (λ tokens. place_of passes (take credits tokens)) nothing ∙ none_taken credits;
          at = subst (At Between) (sym (ap (λ (rec : NodeRec). state_at rec d.to_end) to_node ∙ idle_at INPUTS d.to_end)) tt;
        };
      }
    where
      idle≢out : {e h : ℕ} {dest : Dest} → Idle ≡ Out e h dest → ⊥
      idle≢out e = cc

      first_sends : Sends passes d.from_end (replicate INPUTS Idle) []
      first_sends = record {
        place = Between;
        packets = place_of_none passes;
        held = λ i headers dest out. absurd (idle≢out (sym (idle_at INPUTS i) ∙ out));
        one = λ i j mine its. absurd (false≢true (sym (ap (is_out_by d.from_end) (idle_at INPUTS i)) ∙ mine));
        free = λ none. refl;
      }

      none_taken : (n : ℕ) → place_of passes (take n []) ≡ Some Between
      none_taken zero = place_of_none passes
      none_taken (suc n) = place_of_none passes

  -- ---- A slot

  module _ (system : SystemRec) (slot : ℕ) (j : Joined system slot l d) (h : Holds system) where
    abbrev after : SystemRec
    after = system_step plan slot system

    abbrev steps : List Stepped
    steps = steps_of plan slot system

    abbrev arrivals : Position → Arrivals
    arrivals v = arrivals_at plan system.histories slot v

    abbrev pins : Position → PinView
    pins v = pins_at plan system.histories v slot

    abbrev fixed : Position → NodePlan → Fixed
    fixed v node = fixed_of node (gaps_of plan v)

    -- a node
    module _ (v : Position) (node : NodePlan) (rec : NodeRec) (node_is : slice_get plan.nodes v ≡ Some node) (rec_is : slice_get system.nodes v ≡ Some rec) where
      abbrev stepped : Stepped
      stepped = step_at plan system.histories slot v node rec

      steps_so : slice_get steps v ≡ Some stepped
      steps_so = steps-at plan system.histories slot 0 plan.nodes system.nodes v v node rec (omega arith) node_is rec_is

      was : node_by system.nodes v ≡ rec
      was = get_or_from_slice_get system.nodes v rec (first_node 0 0 []) rec_is

      now : node_by after.nodes v ≡ stepped.rec
      now = get_or_from_slice_get after.nodes v stepped.rec (first_node 0 0 []) (map-at (λ (s : Stepped). s.rec) steps v stepped steps_so)

      all_still : many (node_by system.nodes v) ≡ INPUTS → many (node_by after.nodes v) ≡ INPUTS
      all_still all = ap many now ∙ node_counts (fixed v node) rec slot (arrivals v) (pins v) ∙ sym (ap many was) ∙ all

    abbrev from_step : Stepped
    from_step = stepped d.from from.0 j.from_node from.1 j.from_is

    abbrev to_step : Stepped
    to_step = stepped d.to to.0 j.to_node to.1 j.to_is

    from_was : node_by system.nodes d.from ≡ j.from_node
    from_was = was d.from from.0 j.from_node from.1 j.from_is

    to_was : node_by system.nodes d.to ≡ j.to_node
    to_was = was d.to to.0 j.to_node to.1 j.to_is

    abbrev token : Option Token
    token = slice_index_or from_step.emitted.tokens d.from_end None

    abbrev credit : Bool
    credit = slice_index_or to_step.emitted.credits d.to_end false

    -- ---- What has been carried, and what credits went back

    carried_was : carried system l ≡ tokens_of j.forth
    carried_was = ap tokens_of (get_or_from_slice_get system.histories l j.forth [] j.forth_is)

    credits_were : credits_of (slice_index_or system.histories (opposite l) []) ≡ length j.taken
    credits_were = ap credits_of (get_or_from_slice_get system.histories (opposite l) j.back [] j.back_is) ∙ sym j.kept.taken_credits

    history_now : (k : ℕ) (e : Arc) (history : List Entry) → slice_get (link_arcs plan.links) k ≡ Some e → slice_get system.histories k ≡ Some history →
        slice_index_or after.histories k [] ≡ history ++ sent_by slot (emitted_by steps e.from) e.from_end
    history_now k e history e_is history_is =
        get_or_from_slice_get after.histories k _ []
        (history-at slot system.nodes steps (arcs plan) system.histories k e history (directed plan is k e e_is).joins (link-arc plan is k e e_is) history_is)

    carried_now : carried after l ≡ tokens_of j.forth ++ option_to_list token
    carried_now =
        ap tokens_of (history_now l d j.forth here j.forth_is)
        ∙ ap (λ e. tokens_of (j.forth ++ sent_by slot e d.from_end)) (emitted-at steps d.from from_step (steps_so d.from from.0 j.from_node from.1 j.from_is))
        ∙ tokens-append j.forth (sent_by slot from_step.emitted d.from_end)
        ∙ ap (λ ts. tokens_of j.forth ++ ts) (sent-tokens slot token (slice_index_or from_step.emitted.credits d.from_end false))

    credits_now : credits_of (slice_index_or after.histories (opposite l) []) ≡ length j.taken + one_if credit
    credits_now =
        ap credits_of (history_now (opposite l) (turned d) j.back there j.back_is)
        ∙ ap (λ e. credits_of (j.back ++ sent_by slot e d.to_end)) (emitted-at steps d.to to_step (steps_so d.to to.0 j.to_node to.1 j.to_is))
        ∙ credits-append j.back (sent_by slot to_step.emitted d.to_end)
        ∙ ap₂ (λ a b. a + b) (sym j.kept.taken_credits) (sent-credits slot (slice_index_or to_step.emitted.tokens d.to_end None) credit)

    -- ---- The sender

    sends_now : Sends passes d.from_end from_step.rec.inputs (tokens_of j.forth ++ option_to_list token)
    sends_now =
        node_sends (fixed d.from from.0) j.from_node slot (arrivals d.from) (pins d.from) d.from_end passes (tokens_of j.forth)
        within.from_end (omega (arith, gap-at plan is l d here, within.gap)) sender_ways (sym (ap many from_was) ∙ h.from_all)
        (subst₂ (Sends passes d.from_end) (ap inputs from_was) carried_was h.sent)

    -- ---- The receiver

    abbrev place : Place
    place = h.taken.place

    taken_was : taken system l ≡ j.taken
    taken_was = ap₂ take credits_were (carried_was ∙ j.kept.order) ∙ take_part j.taken _ (length j.taken) refl

    -- what waits at the receiver when what arrives has arrived
    abbrev waits : List Token
    waits = (arrived slot (token_among (arriving slot d.delay j.forth)) (credit_among (arriving slot d.delay j.forth)) j.receiver).buffer

    abbrev flight : List Token
    flight = tokens_of (in_flight (suc slot) d.delay j.forth)

    order : tokens_of j.forth ≡ j.taken ++ (waits ++ flight)
    order =
        let token_back = token_among (arriving slot d.delay j.back) in
        let credit_forth = credit_among (arriving slot d.delay j.forth) in
        (arrive-keeps slot d.delay j.sender j.receiver j.forth j.back j.taken j.kept token_back credit_forth).order

    arrived_is : buffer_of_link (arrived_at j.to_node slot (arrivals d.to) d.to_end) ≡ waits
    arrived_is =
        let its : IsHistory plan system.histories slot l d j.forth = record { plan_is = is; here = here; history_is = j.forth_is; inside = within.to_end } in
        let its_token = token-at plan system.histories slot l d j.forth its in
        let its_credit = credit-at plan system.histories slot l d j.forth its in
        λ i. buffer_of_link (link_after_arrivals slot (its_token i) (its_credit i) (j.receiver_is i))

    abbrev TookSo : List Token → Bool → InputRec → Type 0
    TookSo tokens gone state = Took passes (IsOnWay plan d.to net) net place tokens gone state

    took : TookSo waits credit (state_at to_step.rec d.to_end)
    took =
        subst₂ (λ n tokens. Took passes (IsOnWay plan d.to net) n place tokens credit (state_at to_step.rec d.to_end)) net_there arrived_is
        (node_takes (fixed d.to to.0) j.to_node slot (arrivals d.to) (pins d.to) d.to_end passes (IsOnWay plan d.to net) place
        within.to_end (sym (ap many to_was) ∙ h.to_all) receiver_ways
        (subst₂ (λ n rec. IsAt (IsOnWay plan d.to net) n place (state_at rec d.to_end)) (sym net_there) to_was h.taken.at))

    -- the place where all that was taken ends
    record Ends (tokens : List Token) (state : InputRec) : Type 0 where
      place : Place
      packets : place_of passes tokens ≡ Some place
      at : At place state

    was_taken : place_of passes j.taken ≡ Some place
    was_taken = ap (place_of passes) (sym taken_was) ∙ h.taken.packets

    -- what has been carried after the slot
    abbrev all_now : List Token
    all_now = tokens_of j.forth ++ option_to_list token

    takes_now : (tokens : List Token) (gone : Bool) (state : InputRec) → tokens_of j.forth ≡ j.taken ++ (tokens ++ flight) → TookSo tokens gone state →
        Ends (take (length j.taken + one_if gone) all_now) state
    takes_now tokens false state all its = record {
      place = place;
      packets = ap (place_of passes) same ∙ was_taken;
      at = its;
    }
      where
        same : take (length j.taken + 0) all_now ≡ j.taken
        same =
            let parts : all_now ≡ j.taken ++ (tokens ++ (flight ++ option_to_list token)) = ap (λ ts. ts ++ option_to_list token) all ∙ simp append_assoc in
            ap (take (length j.taken + 0)) parts ∙ take_part j.taken _ (length j.taken + 0) (omega arith)
    takes_now [] true state all its = absurd its
    takes_now (t ∷ rest) true state all its =
        let whole : place_of passes (j.taken ++ (t ∷ (rest ++ flight))) ≡ Some h.sent.place =
        ap (place_of passes) (sym all ∙ sym carried_was) ∙ h.sent.packets in
        let more : GoesOn passes j.taken place t = goes_on_past passes j.taken t (rest ++ flight) place h.sent.place was_taken whole in
        record {
          place = more.next;
          packets = ap (place_of passes) one_more ∙ more.whole;
          at = its more.next more.after;
        }
      where
        one_more : take (length j.taken + 1) all_now ≡ j.taken ++ t ∷ []
        one_more =
            let parts : all_now ≡ (j.taken ++ t ∷ []) ++ (rest ++ (flight ++ option_to_list token)) =
            ap (λ ts. ts ++ option_to_list token) all ∙ simp append_assoc in
            ap (take (length j.taken + 1)) parts ∙ take_part (j.taken ++ t ∷ []) _ (length j.taken + 1) (length-append j.taken (t ∷ []))

    next_slot : Holds after
    next_slot =
        let ends = takes_now waits credit (state_at to_step.rec d.to_end) order took in
        let from_now = now d.from from.0 j.from_node from.1 j.from_is in
        let to_now = now d.to to.0 j.to_node to.1 j.to_is in
        record {
          from_all = all_still d.from from.0 j.from_node from.1 j.from_is h.from_all;
          to_all = all_still d.to to.0 j.to_node to.1 j.to_is h.to_all;
          sent = subst₂ (Sends passes d.from_end) (sym (ap inputs from_now)) (sym carried_now) sends_now;
          taken = record {
            place = ends.place;
            packets = ap (place_of passes) (ap₂ take credits_now carried_now) ∙ ends.packets;
            at = subst (At ends.place) (sym (ap (λ (rec : NodeRec). state_at rec d.to_end) to_now)) ends.at;
          };
        }

  holds : (slot : ℕ) → Holds (serial plan slot)
  unfolding serial
  holds zero = at_start
  holds (suc slot) = next_slot (serial plan slot) slot (joined plan is l d here slot_at_link_end slot) (holds slot)

  pub whole_packets : (slot : ℕ) → WholePackets plan (serial plan slot) l d
  whole_packets slot =
      let system = serial plan slot in
      let j : Joined system slot l d = joined plan is l d here slot_at_link_end slot in
      let h = holds slot in
      let waiting : buffer_of_link (link_at (node_by system.nodes d.to) d.to_end) ≡ j.receiver.buffer =
      ap (λ (rec : NodeRec). buffer_of_link (link_at rec d.to_end)) (to_was system slot j h) ∙ ap buffer_of_link j.receiver_is in
      let on_their_way : List Token = tokens_of (in_flight slot d.delay j.forth) in
      record {
        sender = h.sent;
        receiver = h.taken;
        on_their_way = on_their_way;
        order = carried_was system slot j h ∙ j.kept.order ∙ (λ i. sym (taken_was system slot j h) i ++ (sym waiting i ++ on_their_way));
      }
