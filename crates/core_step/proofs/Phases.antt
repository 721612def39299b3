-- What arrives by the link ends and what the switch does, as the network and its channel ends show it.
use Rattle.std.proofs.Common.{◌≡◌, ℕ, List, Option, ap, sym, ◌∙◌, subst}
use Rattle.xs_model.specs.declared.outside.Arrivals.{Arrivals}
use Rattle.xs_model.specs.Record.{NodeRec, ChanRec, InputRec, LinkRec}
use Rattle.xs_model.specs.Outside.{Emitted}
use Rattle.xs_model.specs.AtWork.{AtWork, emitted_in}
use Rattle.net_model.specs.Links.{arrive, links_after_arrivals}
use Rattle.net_model.specs.Switch.{Routes, moves}
use Rattle.link_ends.specs.Counts.{EndCounts}
use Rattle.switch_routes.specs.Rows.{AllCountsOf, CreditedBy}
use Rattle.switch_routes.specs.Switch.{SwitchRec, StandsIn, with_parts}
use Rattle.core_step.specs.Network.{NetworkRec, NetworkStands, Brings}

-- Phase 1: what arrives by the link ends leaves the inputs and the channel ends.
pub arrives : (slot : ℕ) (arrivals : Arrivals) (switch : SwitchRec) (chans : List ChanRec) (row after : List (Option EndCounts)) (m : AtWork)
    → ((links : List (Option LinkRec)) → AllCountsOf row links → AllCountsOf after (links_after_arrivals slot arrivals.tokens arrivals.credits 0 links))
    → ((links : List (Option LinkRec)) → CreditedBy slot links → CreditedBy slot (links_after_arrivals slot arrivals.tokens arrivals.credits 0 links))
    → StandsIn slot switch chans row m.rec → StandsIn slot switch chans after (arrive slot arrivals m).rec
arrives slot arrivals switch chans row after m counts credited at = record {
  inputs = at.inputs;
  chans = at.chans;
  links = counts m.rec.links at.links;
  credited = credited m.rec.links at.credited;
}

-- the routes are known by the id, the ways, the networks and the gaps
pub same_routes : (i j : ℕ) (w v n o g h : List ℕ) → i ≡ j → w ≡ v → n ≡ o → g ≡ h → (λ (id : ℕ) (ways nets gaps : List ℕ). let r : Routes = record { id = id; ways = ways; nets = nets; gaps = gaps } in r) i w n g ≡ (λ (id : ℕ) (ways nets gaps : List ℕ). let r : Routes = record { id = id; ways = ways; nets = nets; gaps = gaps } in r) j v o h
same_routes i j w v n o g h e f b d =
    ap (λ (x : ℕ). let r : Routes = record { id = x; ways = w; nets = n; gaps = g } in r) e
    ∙ ap (λ (y : List ℕ). let r : Routes = record { id = j; ways = y; nets = n; gaps = g } in r) f
    ∙ ap (λ (y : List ℕ). let r : Routes = record { id = j; ways = v; nets = y; gaps = g } in r) b
    ∙ ap (λ (z : List ℕ). let r : Routes = record { id = j; ways = v; nets = o; gaps = z } in r) d

-- inputs and channel ends that stand for a node's are all that a node has of them
parts_are : (rec : NodeRec) (inputs : List InputRec) (chans : List ChanRec) (links : List (Option LinkRec)) → inputs ≡ rec.inputs → chans ≡ rec.core.chans → record rec { links = links } ≡ with_parts rec inputs chans links
parts_are rec inputs chans links i c =
    sym (ap (λ x. with_parts rec x chans links) i ∙ ap (λ x. with_parts rec rec.inputs x links) c)

-- Phase 3, where the switch does nothing: what arrived is all that the network brings.
pub brings_what_arrived : (slot : ℕ) (arrivals : Arrivals) (routes : Routes) (n : NetworkRec) (chans : List ChanRec) (out : Emitted) (m : AtWork)
    → StandsIn slot n.switch chans n.links (arrive slot arrivals m).rec → out ≡ emitted_in slot m → moves routes slot (arrive slot arrivals m) ≡ arrive slot arrivals m
    → Brings slot arrivals routes n chans out m
brings_what_arrived slot arrivals routes n chans out m at is still = record {
  stands = subst (NetworkStands slot n chans out) (sym still) (record { parts = at; emitted = is });
  rest = subst (λ (w : AtWork). w.rec ≡ with_parts m.rec n.switch.inputs chans w.rec.links) (sym still)
      (parts_are m.rec n.switch.inputs chans (arrive slot arrivals m).rec.links at.inputs at.chans);
}
