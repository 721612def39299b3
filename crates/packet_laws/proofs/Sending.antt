-- One slot of a node at a link end: what has left by it are packets still, and the last one is cut where an input holds it. What arrives, the
-- edges of the ports and the issue leave this as it is.
use Rattle.std.proofs.Common.{◌≡◌, ◌<◌, ◌≤◌, Bool, is_some, Option, None, List, ◌++◌, length, get_or, slice_index, replicate, sym, ap, subst, ◌∙◌, append-nil, arith}
use Rattle.std.proofs.lemmas.Bool.{both_ways}
use Rattle.std.proofs.lemmas.List.{get_or-replicate}
use Rattle.std.specs.Prelude.{option_to_list, slice_index_or}
use Rattle.xs_base.specs.Numbers.{Slot, NodeId, EndNumber}
use Rattle.xs_base.specs.declared.numbers.TheConstants.{LINK_ENDS, INPUTS}
use Rattle.xs_base.specs.declared.token.Token.{Token}
use Rattle.xs_model.specs.declared.outside.Arrivals.{Arrivals}
use Rattle.xs_model.specs.declared.outside.PinView.{PinView}
use Rattle.xs_model.specs.Record.{NodeRec}
use Rattle.xs_model.specs.AtWork.{slot_begins}
use Rattle.net_model.specs.Links.{arrive}
use Rattle.step_model.specs.Fixed.{Fixed}
use Rattle.step_model.specs.Step.{node_step, ports_step}
use Rattle.packet_laws.specs.Whole.{Sends}
use Rattle.packet_laws.proofs.SendingMoves.{AllPass, Good, moves_so}

module _ (fixed : Fixed) (rec : NodeRec) (slot : Slot) (arrivals : Arrivals) (pins : PinView) (e : EndNumber) (passes : NodeId → Bool)
    (before : List Token) (low : e < LINK_ENDS) (long : 1 ≤ slice_index fixed.routes.gaps e) (ways : AllPass fixed.routes passes e)
    (all : length rec.inputs ≡ INPUTS) (sends : Sends passes e rec.inputs before) where
  -- before the switch's steps nothing has left
  first_so : Good fixed.routes slot passes e before (ports_step slot pins (arrive slot arrivals (slot_begins rec)))
  first_so =
      let nothing : Option Token = None in
      let none : get_or (replicate LINK_ENDS nothing) e None ≡ None = get_or-replicate LINK_ENDS e nothing nothing low in
      record {
        has_token = low;
        all = all;
        once = λ gone. absurd (both_ways _ (ap is_some none) gone);
        sends = subst (Sends passes e rec.inputs) (sym (ap (λ token. before ++ option_to_list token) none ∙ append-nil before)) sends;
      }

  pub node_sends : let after = node_step fixed rec slot arrivals pins in
      Sends passes e after.rec.inputs (before ++ option_to_list (slice_index_or after.emitted.tokens e None))
  unfolding node_step
  node_sends =
      let edged = ports_step slot pins (arrive slot arrivals (slot_begins rec)) in
      (moves_so fixed.routes slot passes e before long ways 0 INPUTS edged (omega arith) first_so).sends
