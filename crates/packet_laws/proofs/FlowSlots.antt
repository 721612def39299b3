-- A node as the inputs of its switch begin their steps in a slot.
use Rattle.std.proofs.Common.{◌≡◌, ℕ, zero, suc, ◌+◌, Bool, false, is_some, Option, Some, None, List, [], ◌∷◌, length, get_or, replicate, refl, sym, ap, ◌∙◌}
use Rattle.std.proofs.lemmas.Bool.{false≢true}
use Rattle.xs_base.specs.Numbers.{Slot, EndNumber}
use Rattle.xs_base.specs.declared.numbers.TheConstants.{LINK_ENDS}
use Rattle.xs_base.specs.declared.token.Token.{Token}
use Rattle.xs_model.specs.declared.outside.Arrivals.{Arrivals}
use Rattle.xs_model.specs.declared.outside.PinView.{PinView}
use Rattle.xs_model.specs.Record.{NodeRec, LinkRec}
use Rattle.xs_model.specs.AtWork.{slot_begins}
use Rattle.net_model.specs.Links.{link_after_arrivals, links_after_arrivals, arrive}
use Rattle.step_model.specs.Fixed.{Fixed}
use Rattle.step_model.specs.Step.{ports_step}
use Rattle.packet_laws.specs.Flow.{IsSwitch, Works}

same_at_all : {A : Type 0} (x : A) (n e : ℕ) → get_or (replicate n x) e x ≡ x
same_at_all x zero e = refl
same_at_all x (suc n) zero = refl
same_at_all x (suc n) (suc e) = same_at_all x n e

module _ (slot : Slot) (tokens : List (Option Token)) (credits : List Bool) where
  as_many : (end : EndNumber) (links : List (Option LinkRec)) → length (links_after_arrivals slot tokens credits end links) ≡ length links
  unfolding links_after_arrivals
  as_many end [] = refl
  as_many end (link ∷ links) = ap suc (as_many (end + 1) links)

  still_some : (token : Option Token) (credit : Bool) (link : Option LinkRec) → is_some (link_after_arrivals slot token credit link) ≡ is_some link
  still_some token credit None = refl
  still_some token credit (Some link) = refl

  still_there : (end : EndNumber) (links : List (Option LinkRec)) (e : EndNumber) → is_some (get_or (links_after_arrivals slot tokens credits end links) e None) ≡ is_some (get_or links e None)
  unfolding links_after_arrivals
  still_there end [] e = refl
  still_there end (link ∷ links) zero = still_some (get_or tokens end None) (get_or credits end false) link
  still_there end (link ∷ links) (suc e) = still_there (end + 1) links e

pub switch_works : (fixed : Fixed) (rec : NodeRec) (slot : Slot) (arrivals : Arrivals) (pins : PinView) → IsSwitch fixed.routes.gaps rec
    → Works fixed.routes slot (ports_step slot pins (arrive slot arrivals (slot_begins rec)))
switch_works fixed rec slot arrivals pins h = record {
  switch = record {
    inputs = h.inputs;
    links = as_many slot arrivals.tokens arrivals.credits 0 rec.links ∙ h.links;
    used = h.used;
    chans = h.chans;
    ends = h.ends;
    gap = λ e is. h.gap e (sym (still_there slot arrivals.tokens arrivals.credits 0 rec.links e) ∙ is);
  };
  tokens = refl;
  once = λ e gone. absurd (false≢true (sym (ap is_some (same_at_all None LINK_ENDS e)) ∙ gone));
}
