-- A slot of a node at one of its link ends: what arrives, and then the switch's steps. The edges of the ports and the issue leave
-- the link ends as they are.
use Rattle.std.proofs.Common.{◌≡◌, ℕ, zero, suc, ◌+◌, ◌<◌, Bool, false, Option, None, List, [], ◌∷◌, get_or, slice_index, refl, ap, sym, subst, subst₂, ◌∙◌, arith}
use Rattle.std.proofs.lemmas.List.{get_or-replicate}
use Rattle.xs_base.specs.Numbers.{Slot, EndNumber}
use Rattle.xs_base.specs.declared.numbers.TheConstants.{LINK_ENDS, INPUTS}
use Rattle.xs_base.specs.declared.token.Token.{Token}
use Rattle.xs_model.specs.declared.outside.Arrivals.{Arrivals}
use Rattle.xs_model.specs.Record.{NodeRec, LinkRec}
use Rattle.xs_model.specs.AtWork.{slot_begins}
use Rattle.net_model.specs.Links.{link_after_arrivals, links_after_arrivals, arrive}
use Rattle.net_model.specs.Switch.{Routes, link_at}
use Rattle.step_model.specs.Step.{node_step, ports_step}
use Rattle.link_laws.specs.LinkSlot.{LinkSlotAt, arrived_at, SlotAtLinkEnd}
use Rattle.link_laws.proofs.SlotAtEnd.{begins_so}
use Rattle.link_laws.proofs.SlotAtEndMoves.{At, moves_so}

-- what arrives at the link end with place j among those from number n on
arrives_at : (slot : Slot) (tokens : List (Option Token)) (credits : List Bool) (n : EndNumber) (links : List (Option LinkRec)) (j : ℕ) →
    get_or (links_after_arrivals slot tokens credits n links) j None
    ≡ link_after_arrivals slot (get_or tokens (n + j) None) (get_or credits (n + j) false) (get_or links j None)
unfolding links_after_arrivals
arrives_at slot tokens credits n [] j = refl
arrives_at slot tokens credits n (link ∷ links) zero =
    let e : n ≡ n + zero = omega arith in
    ap (λ k. link_after_arrivals slot (get_or tokens k None) (get_or credits k false) link) e
arrives_at slot tokens credits n (link ∷ links) (suc j) =
    let e : n + 1 + j ≡ n + suc j = omega arith in
    arrives_at slot tokens credits (n + 1) links j
    ∙ ap (λ k. link_after_arrivals slot (get_or tokens k None) (get_or credits k false) (get_or links j None)) e

module _ (rec : NodeRec) (slot : Slot) (arrivals : Arrivals) (end : EndNumber) where
  arrived_so : link_at (arrive slot arrivals (slot_begins rec)).rec end ≡ arrived_at rec slot arrivals end
  arrived_so =
      let e : 0 + end ≡ end = omega arith in
      arrives_at slot arrivals.tokens arrivals.credits 0 rec.links end
      ∙ ap (λ k. link_after_arrivals slot (get_or arrivals.tokens k None) (get_or arrivals.credits k false) (link_at rec end)) e

  -- when what arrives has arrived, nothing has left
  first_so : (routes : Routes) → end < LINK_ENDS → At routes slot end (arrived_at rec slot arrivals end) 0 (arrive slot arrivals (slot_begins rec))
  first_so routes within =
      let gap = slice_index routes.gaps end in
      let before = arrived_at rec slot arrivals end in
      let link = link_at (arrive slot arrivals (slot_begins rec)).rec end in
      let none : Option Token = None in
      let no_token = get_or-replicate LINK_ENDS end none none within in
      let no_credit = get_or-replicate LINK_ENDS end false false within in
      let begun = subst (λ link. LinkSlotAt gap slot before link None false) (sym arrived_so) (begins_so gap slot before) in
      record {
        has_token = within;
        has_credit = within;
        untaken = λ _. no_credit;
        so_far = subst₂ (LinkSlotAt gap slot before link) (sym no_token) (sym no_credit) begun;
      }

pub slot_at_link_end : SlotAtLinkEnd
unfolding node_step
slot_at_link_end fixed rec slot arrivals pins end within long =
    let before = arrived_at rec slot arrivals end in
    let first = first_so rec slot arrivals end fixed.routes within in
    -- the edges of the ports leave link ends as they are
    let edged = ports_step slot pins (arrive slot arrivals (slot_begins rec)) in
    let still : At fixed.routes slot end before 0 edged = record {
      has_token = first.has_token;
      has_credit = first.has_credit;
      untaken = first.untaken;
      so_far = first.so_far;
    } in
    moves_so fixed.routes slot end before long 0 INPUTS edged still
