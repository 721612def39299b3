-- The serial machine as it starts, and one slot of it at a node and at a directed link.
use Rattle.std.proofs.Common.{◌≡◌, ℕ, zero, suc, ◌+◌, ◌<◌, ◌≤◌, Bool, false, Option, Some, None, List, [], ◌∷◌, ◌++◌, length}
use Rattle.std.proofs.Common.{map, get_or, slice_get, slice_index, slice_index_or, option_map, refl, ap, ◌∙◌, subst, arith}
use Rattle.std.proofs.lemmas.Bool.{ne_eqb}
use Rattle.std.proofs.lemmas.Option.{none-some, same_Some, slice_get-map, get_or_from_slice_get}
use Rattle.xs_base.specs.declared.token.Token.{Token}
use Rattle.xs_base.specs.declared.entry.Entry.{Entry}
use Rattle.xs_model.specs.Record.{NodeRec, LinkRec}
use Rattle.xs_model.specs.Outside.{emitted_events}
use Rattle.net_model.specs.Links.{fresh_link, link_after_arrivals}
use Rattle.net_model.specs.Switch.{link_at}
use Rattle.sys_plan.specs.declared.NodePlan.{NodePlan}
use Rattle.sys_plan.specs.Plan.{PlanRec, Arc, IsPlan, link_arcs, incoming, gaps_of}
use Rattle.step_model.specs.Start.{fixed_of, node_of, link_with_gap}
use Rattle.step_model.specs.Step.{Stepped, node_step}
use Rattle.serial_model.specs.Serial.{nodes_at_start, arriving, arriving_by, token_among, credit_among, arrivals_at, pins_at, steps_from, sent_by, emitted_by, carried, longer_histories}
use Rattle.link_laws.specs.LinkSlot.{LinkSlot, LinkSlotAt, arrived_at, SlotAtLinkEnd}
use Rattle.link_laws.proofs.TravelEnds.{arrived}
use Rattle.sys_plan.proofs.Routes.{at-link-end, link-arc, incoming-is, delay-is}

-- what stands at a place within a list
pub found : {X : Type 0} (xs : List X) (k : ℕ) → k < length xs → (x : X) × (slice_get xs k ≡ Some x)
found [] k h = absurd (omega arith)
found (x ∷ xs) zero h = (x, refl)
found (x ∷ xs) (suc k) h = found xs k (omega arith)

pub map-at : {X Y : Type 0} (f : X → Y) (xs : List X) (k : ℕ) (x : X) → slice_get xs k ≡ Some x → slice_get (map f xs) k ≡ Some (f x)
map-at f xs k x h = slice_get-map f xs k ∙ ap (option_map f) h

-- ---- The start

pub node-at-start : (plan : PlanRec) (n : ℕ) (nodes : List NodePlan) (k m : ℕ) (node : NodePlan) → m ≡ n + k → slice_get nodes k ≡ Some node
    → slice_get (nodes_at_start plan n nodes) k ≡ Some (node_of node (gaps_of plan m))
node-at-start plan n [] k m node e h = absurd (none-some node h)
node-at-start plan n (x ∷ nodes) zero m node e h =
    let same : n ≡ m = omega arith in
    λ i. Some (node_of (same_Some x node h i) (gaps_of plan (same i)))
node-at-start plan n (x ∷ nodes) (suc k) m node e h = node-at-start plan (n + 1) nodes k m node (omega arith) h

link-there : (gap : ℕ) → 1 ≤ gap → link_with_gap gap ≡ Some fresh_link
link-there gap h = rw (ne_eqb gap 0 (λ none. omega arith)) refl

-- a link end with a gap is there
pub link-at-start : (plan : PlanRec) (n end : ℕ) (node : NodePlan) → end < 8 → 1 ≤ slice_index (gaps_of plan n) end → link_at (node_of node (gaps_of plan n)) end ≡ Some fresh_link
link-at-start plan n end node e h =
    let of_gaps = at-gap (gaps_of plan n) end in
    of_gaps ∙ link-there (slice_index (gaps_of plan n) end) h
  where
    at-gap : (gaps : List ℕ) (k : ℕ) → get_or (map link_with_gap gaps) k None ≡ link_with_gap (get_or gaps k 0)
    at-gap [] k = refl
    at-gap (g ∷ gaps) zero = refl
    at-gap (g ∷ gaps) (suc k) = at-gap gaps k

-- ---- The steps of the nodes in a slot

module _ (plan : PlanRec) (histories : List (List Entry)) (slot : ℕ) where
  abbrev pub step_at : ℕ → NodePlan → NodeRec → Stepped
  step_at n node rec = node_step (fixed_of node (gaps_of plan n)) rec slot (arrivals_at plan histories slot n) (pins_at plan histories n slot)

  pub steps-at : (n : ℕ) (nodes : List NodePlan) (recs : List NodeRec) (k m : ℕ) (node : NodePlan) (rec : NodeRec) → m ≡ n + k → slice_get nodes k ≡ Some node → slice_get recs k ≡ Some rec
      → slice_get (steps_from plan histories slot n nodes recs) k ≡ Some (step_at m node rec)
  steps-at n [] recs k m node rec e h g = absurd (none-some node h)
  steps-at n (x ∷ nodes) [] k m node rec e h g = absurd (none-some rec g)
  steps-at n (x ∷ nodes) (r ∷ recs) zero m node rec e h g =
      let same : n ≡ m = omega arith in
      λ i. Some (step_at (same i) (same_Some x node h i) (same_Some r rec g i))
  steps-at n (x ∷ nodes) (r ∷ recs) (suc k) m node rec e h g = steps-at (n + 1) nodes recs k m node rec (omega arith) h g

  -- what a slot does at a link end of a node
  end-slot-of : (gap : ℕ) (before : LinkRec) (after : Option LinkRec) (token : Option Token) (credit : Bool) → LinkSlotAt gap slot (Some before) after token credit
      → (link : LinkRec) × (after ≡ Some link) × LinkSlot gap slot before link token credit
  end-slot-of gap before None token credit h = absurd h
  end-slot-of gap before (Some after) token credit h = (after, refl, h)

  -- what arrives at a link end of the node at a position
  abbrev pub token_to : ℕ → ℕ → Option Token
  token_to n end = slice_index_or (arrivals_at plan histories slot n).tokens end None

  abbrev pub credit_to : ℕ → ℕ → Bool
  credit_to n end = slice_index_or (arrivals_at plan histories slot n).credits end false

  -- a link end before and after a slot, where this arrives at it
  module _ (at_end : SlotAtLinkEnd) (n end : ℕ) (node : NodePlan) (rec : NodeRec) (before : LinkRec) (token : Option Token) (credit : Bool) where
    abbrev gap : ℕ
    gap = slice_index (gaps_of plan n) end

    abbrev step : Stepped
    step = step_at n node rec

    abbrev DoesSo : Option LinkRec → Option LinkRec → Type 0
    DoesSo now after = LinkSlotAt gap slot now after (slice_index_or step.emitted.tokens end None) (slice_index_or step.emitted.credits end false)

    pub end-slot : end < 8 → 1 ≤ gap → link_at rec end ≡ Some before → token_to n end ≡ token → credit_to n end ≡ credit
        → (after : LinkRec) × (link_at step.rec end ≡ Some after)
        × LinkSlot gap slot (arrived slot token credit before) after (slice_index_or step.emitted.tokens end None) (slice_index_or step.emitted.credits end false)
    end-slot inside has_gap is is_token is_credit =
        let does = at_end (fixed_of node (gaps_of plan n)) rec slot (arrivals_at plan histories slot n) (pins_at plan histories n slot) end inside has_gap in
        let now : arrived_at rec slot (arrivals_at plan histories slot n) end ≡ Some (arrived slot token credit before) = λ i. link_after_arrivals slot (is_token i) (is_credit i) (is i) in
        end-slot-of gap (arrived slot token credit before) (link_at step.rec end) _ _ (subst (λ (o : Option LinkRec). DoesSo o (link_at step.rec end)) now does)

-- what the node at a position emitted
pub emitted-at : (steps : List Stepped) (k : ℕ) (s : Stepped) → slice_get steps k ≡ Some s → emitted_by steps k ≡ s.emitted
emitted-at steps k s h = get_or_from_slice_get (map (λ (s : Stepped). s.emitted) steps) k s.emitted (emitted_events []) (map-at (λ (s : Stepped). s.emitted) steps k s h)

-- what an arc that joins no pins carries
carried-is : (slot : ℕ) (nodes : List NodeRec) (steps : List Stepped) (d : Arc) → d.joins ≡ None → carried slot nodes steps d ≡ sent_by slot (emitted_by steps d.from) d.from_end
carried-is slot nodes steps d none = rw none refl

pub history-at : (slot : ℕ) (nodes : List NodeRec) (steps : List Stepped) (ds : List Arc) (histories : List (List Entry)) (l : ℕ) (d : Arc) (history : List Entry)
    → d.joins ≡ None → slice_get ds l ≡ Some d → slice_get histories l ≡ Some history
    → slice_get (longer_histories slot nodes steps ds histories) l ≡ Some (history ++ sent_by slot (emitted_by steps d.from) d.from_end)
history-at slot nodes steps [] histories l d history none h g = absurd (none-some d h)
history-at slot nodes steps (x ∷ ds) [] l d history none h g = absurd (none-some history g)
history-at slot nodes steps (x ∷ ds) (y ∷ histories) zero d history none h g =
    (λ i. Some (same_Some y history g i ++ carried slot nodes steps (same_Some x d h i))) ∙ (λ i. Some (history ++ carried-is slot nodes steps d none i))
history-at slot nodes steps (x ∷ ds) (y ∷ histories) (suc l) d history none h g = history-at slot nodes steps ds histories l d history none h g

-- ---- What arrives at the link end that a directed link comes to

module _ (plan : PlanRec) (histories : List (List Entry)) (slot l : ℕ) (d : Arc) (history : List Entry) where
  -- directed link l is d, and this is its history
  pub record IsHistory : Type 0 where
    pub plan_is : IsPlan plan
    pub here : slice_get (link_arcs plan.links) l ≡ Some d
    pub history_is : slice_get histories l ≡ Some history
    pub inside : d.to_end < 8

  arriving-is : IsHistory → arriving_by plan histories slot (incoming plan d.to d.to_end) ≡ arriving slot d.delay history
  arriving-is is =
      let arc = link-arc plan is.plan_is l d is.here in
      ap (arriving_by plan histories slot) (incoming-is plan is.plan_is l d arc)
      ∙ (λ i. arriving slot (delay-is plan is.plan_is l d arc i) (get_or_from_slice_get histories l history [] is.history_is i))

  pub token-at : IsHistory → token_to plan histories slot d.to d.to_end ≡ token_among (arriving slot d.delay history)
  token-at is = at-link-end (λ end. token_among (arriving_by plan histories slot (incoming plan d.to end))) None d.to_end is.inside ∙ ap token_among (arriving-is is)

  pub credit-at : IsHistory → credit_to plan histories slot d.to d.to_end ≡ credit_among (arriving slot d.delay history)
  credit-at is = at-link-end (λ end. credit_among (arriving_by plan histories slot (incoming plan d.to end))) false d.to_end is.inside ∙ ap credit_among (arriving-is is)
