-- In every run each link end has a credit for no more tokens than it sent.
use Rattle.std.proofs.Common.{ℕ, zero, suc, ◌≡◌, ◌+◌, ◌<◌, ◌&&◌, ◌==◌, nat_lt, Bool, true, false, if◌then◌else◌, is_some, Option, Some, None, List, [], ◌∷◌, ◌++◌, length, map, slice_index, slice_index_or, refl, sym, ap, subst, length-append, arith, inl, inr}
use Rattle.std.specs.Prelude.{IfSome}
use Rattle.std.specs.List.{AllByRecursion}
use Rattle.std.proofs.lemmas.Bool.{and_parts, ltb-true, cases_lt, cases_Bool, false≢true, cond_both}
use Rattle.std.proofs.lemmas.List.{get_or_past}
use Rattle.xs_base.specs.Numbers.{Slot, Position, EndNumber}
use Rattle.xs_base.specs.declared.numbers.TheConstants.{LINK_ENDS, BUFFER_TOKENS}
use Rattle.xs_base.specs.declared.token.Token.{Token}
use Rattle.xs_model.specs.declared.outside.Arrivals.{Arrivals}
use Rattle.xs_model.specs.declared.outside.PinView.{PinView}
use Rattle.xs_model.specs.Record.{NodeRec, LinkRec, first_node}
use Rattle.net_model.specs.Links.{fresh_link, token_arrives, credit_arrives, link_after_arrivals}
use Rattle.net_model.specs.Switch.{link_at}
use Rattle.sys_plan.specs.declared.NodePlan.{NodePlan}
use Rattle.sys_plan.specs.Plan.{PlanRec, IsPlan, gaps_of}
use Rattle.step_model.specs.Fixed.{Fixed}
use Rattle.step_model.specs.Start.{fixed_of, link_with_gap}
use Rattle.step_model.specs.Step.{node_step}
use Rattle.serial_model.specs.Serial.{nodes_at_start, serial, step_by}
use Rattle.link_laws.specs.LinkSlot.{LinkSlot, LinkSlotAt}
use Rattle.link_laws.proofs.SerialSteps.{found}
use Rattle.link_laws.proofs.SlotAtEndStep.{slot_at_link_end}
use Rattle.locality_laws.specs.Locality.{node_in, comes_in_serial}
use Rattle.locality_laws.proofs.Nodes.{step_needs_coming}
use Rattle.state_laws.specs.Facts.{LinksFit, end_is_there}
use Rattle.state_laws.specs.Runs.{RunInRange, KeptInEveryRun}
use Rattle.rest_laws.proofs.Units.{IsCredited, all_of, one_of}

abbrev pub AreCredited : NodeRec → Type 0
AreCredited rec = AllByRecursion (λ link. IfSome link IsCredited) rec.links

-- ---- As nodes start

gap_credited : (gap : ℕ) → IfSome (link_with_gap gap) IsCredited
gap_credited gap = cond_both (gap == 0) None (Some fresh_link) (λ (link : Option LinkRec). IfSome link IsCredited) (λ none. tt) (λ some. omega arith)

gaps_credited : (gaps : List ℕ) → AllByRecursion (λ link. IfSome link IsCredited) (map link_with_gap gaps)
gaps_credited [] = tt
gaps_credited (gap ∷ gaps) = (gap_credited gap, gaps_credited gaps)

start_credited : (plan : PlanRec) (n : Position) (nodes : List NodePlan) → AllByRecursion AreCredited (nodes_at_start plan n nodes)
start_credited plan n [] = tt
start_credited plan n (node ∷ nodes) = (gaps_credited (gaps_of plan n), start_credited plan (n + 1) nodes)

-- ---- One slot of a link end

module _ (slot : Slot) where
  token_same : (token : Option Token) (link : LinkRec) → IsCredited link → IsCredited (token_arrives token link)
  token_same None link h = h
  token_same (Some t) link h = by (nat_lt (length link.buffer) BUFFER_TOKENS)
    where
      by : (room : Bool) → IsCredited (if room then record link { buffer = link.buffer ++ t ∷ [] } else link)
      by true = h
      by false = h

  credit_room : (credit : Bool) (link : LinkRec) → IsCredited link → IsCredited (credit_arrives slot credit link)
  credit_room credit link h = by (credit && nat_lt (length link.credited) (length link.sent)) refl
    where
      by : (counts : Bool) → (credit && nat_lt (length link.credited) (length link.sent)) ≡ counts → IsCredited (if counts then record link { credited = link.credited ++ slot ∷ [] } else link)
      by true is =
          omega (arith, length-append link.credited (slot ∷ []), ltb-true (length link.credited) (length link.sent) (and_parts credit (nat_lt (length link.credited) (length link.sent)) is).1)
      by false is = h

  sent_credited : (gap : ℕ) (before after : LinkRec) (token : Option Token) (credit : Bool) → LinkSlot gap slot before after token credit → IsCredited before → IsCredited after
  sent_credited gap before after None credit h old = omega (arith, ap length h.sent, length-append before.sent [], ap length h.credited, old)
  sent_credited gap before after (Some t) credit h old = omega (arith, ap length h.sent, length-append before.sent (slot ∷ []), ap length h.credited, old)

  slot_credited : (gap : ℕ) (link after : Option LinkRec) (arrives token : Option Token) (credit credits : Bool) → IfSome link IsCredited
      → LinkSlotAt gap slot (link_after_arrivals slot arrives credits link) after token credit → IfSome after IsCredited
  slot_credited gap None None arrives token credit credits old h = tt
  slot_credited gap None (Some after) arrives token credit credits old h = absurd h
  slot_credited gap (Some link) None arrives token credit credits old h = absurd h
  slot_credited gap (Some link) (Some after) arrives token credit credits old h =
      sent_credited gap (credit_arrives slot credits (token_arrives arrives link)) after token credit h (credit_room credits (token_arrives arrives link) (token_same arrives link old))

if_there : (link : Option LinkRec) → is_some link ≡ false → IfSome link IsCredited
if_there None is = tt
if_there (Some link) is = absurd (false≢true (sym is))

-- ---- One slot of a node

module _ (fixed : Fixed) (rec : NodeRec) (slot : Slot) (arrivals : Arrivals) (pins : PinView) (next : Slot) where
  abbrev after : NodeRec
  after = (node_step fixed rec slot arrivals pins).rec

  at_end : LinksFit fixed.routes.gaps next after → AreCredited rec → (e : EndNumber) → IfSome (link_at after e) IsCredited
  at_end fits old e = elim (cases_Bool (end_is_there after e)) [
    | inr absent ↦ if_there (link_at after e) absent
    | inl present ↦
        let gap : 0 < slice_index fixed.routes.gaps e = (fits.ends e).0 present in
        elim (cases_lt e LINK_ENDS) [
          | inl low ↦
              slot_credited slot (slice_index fixed.routes.gaps e) (link_at rec e) (link_at after e) (slice_index_or arrivals.tokens e None) _ _ (slice_index_or arrivals.credits e false)
              (one_of (λ link. IfSome link IsCredited) None rec.links e tt old) (slot_at_link_end fixed rec slot arrivals pins e low (omega (arith, gap)))
          | inr high ↦ subst (λ (link : Option LinkRec). IfSome link IsCredited) (sym (get_or_past after.links e None (omega (arith, fits.many, high)))) tt
        ]
  ]

  step_credited : LinksFit fixed.routes.gaps next after → AreCredited rec → AreCredited after
  step_credited fits old = all_of (λ link. IfSome link IsCredited) None after.links (at_end fits old)

-- ---- All slots

module _ (kept : KeptInEveryRun) (plan : PlanRec) (is : IsPlan plan) (code : RunInRange plan.nodes) (n : Position) (within : n < length plan.nodes) where
  start_at : AreCredited (node_in (serial plan 0) n)
  unfolding serial
  start_at = one_of AreCredited (first_node 0 0 []) (nodes_at_start plan 0 plan.nodes) n (tt, (tt, (tt, (tt, (tt, (tt, (tt, (tt, tt)))))))) (start_credited plan 0 plan.nodes)

  pub credited : (slot : Slot) → AreCredited (node_in (serial plan slot) n)
  credited zero = start_at
  credited (suc slot) =
      let node = found plan.nodes n within in
      let rec = node_in (serial plan slot) n in
      let coming = comes_in_serial plan n slot in
      let step = step_needs_coming plan n node.0 slot coming node.1 refl in
      let fits : LinksFit (gaps_of plan n) (suc slot) (step_by plan n node.0 slot coming rec).rec = subst (LinksFit (gaps_of plan n) (suc slot)) step.rec (kept plan (suc slot) n is code within).links in
      subst AreCredited (sym step.rec) (step_credited (fixed_of node.0 (gaps_of plan n)) rec slot coming.arrivals coming.pins (suc slot) fits (credited slot))
