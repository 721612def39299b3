-- Nodes that differ in the slots that their link ends keep, but not in the counts of them: no step tells them apart.
use Rattle.std.specs.Prelude.{ℕ, ◌≡◌, ◌+◌, ◌<◌, Option, Some, None, IfSome, List, [], ◌∷◌, length}
use Rattle.std.specs.List.{AllByRecursion, AllZip}
use Rattle.xs_base.specs.Numbers.{Slot}
use Rattle.xs_base.specs.declared.token.Token.{Token}
use Rattle.xs_model.specs.declared.outside.Arrivals.{Arrivals}
use Rattle.xs_model.specs.declared.outside.PinView.{PinView}
use Rattle.xs_model.specs.Record.{NodeRec, LinkRec}
use Rattle.xs_model.specs.Outside.{Emitted}
use Rattle.net_model.specs.Links.{latest, IsLinkBefore}
use Rattle.step_model.specs.Fixed.{Fixed}
use Rattle.step_model.specs.Step.{Stepped, node_step}
use Rattle.serial_model.specs.Serial.{Coming}

-- ---- What is the same

-- Two link ends at which the same tokens wait, which sent as many tokens that have no credit yet, and which sent their last
-- token in the same slot. The tokens without a credit are those sent less those credited: told as an equation of sums.
pub record LinksAlike (link other : LinkRec) : Type 0 where
  pub buffer : link.buffer ≡ other.buffer
  pub window : length link.sent + length other.credited ≡ length other.sent + length link.credited
  pub last : latest link.sent ≡ latest other.sent

-- two link ends that are both there, and so related; or neither is there
abbrev pub Paired : (LinkRec → LinkRec → Type 0) → Option LinkRec → Option LinkRec → Type 0
Paired related None None = Unit {0}
Paired related (Some link) (Some other) = related link other
Paired related _ _ = ⊥

-- ---- What is kept

-- what of a link end makes others alike it: the tokens that wait in its buffer, how many it sent that have no credit yet, and
-- the slot in which it sent the last one, if it sent any
pub record Kept : Type 0 where
  pub buffer : List Token
  pub window : ℕ
  pub last : Option Slot

-- a link end before a slot sent its last token before that slot; one that sent none has no token without a credit
abbrev pub FitsBefore : Slot → ℕ → Option Slot → Type 0
FitsBefore slot window None = window ≡ 0
FitsBefore slot window (Some last) = last < slot

-- a link end of which this is kept; every slot that it keeps itself is before this one
pub record LinkOf (slot : Slot) (kept : Kept) : Type 0 where
  pub link : LinkRec
  pub buffer : link.buffer ≡ kept.buffer
  pub window : length link.sent ≡ length link.credited + kept.window
  pub last : latest link.sent ≡ kept.last
  pub before : IsLinkBefore slot link

-- there is one for whatever fits
abbrev pub EachHasALink : Type 0
EachHasALink = (slot : Slot) (kept : Kept) → FitsBefore slot kept.window kept.last → LinkOf slot kept

-- all of them are alike
abbrev pub ItsLinksAreAlike : Type 0
ItsLinksAreAlike = (slot : Slot) (kept : Kept) (one other : LinkOf slot kept) → LinksAlike one.link other.link

-- ---- Nodes

-- two nodes that are the same but for their link ends, and those are alike, each with the other's of its number
pub record NodesAlike (rec other : NodeRec) : Type 0 where
  pub core : rec.core ≡ other.core
  pub inputs : rec.inputs ≡ other.inputs
  pub levels : rec.levels ≡ other.levels
  pub links : AllZip (Paired LinksAlike) rec.links other.links

-- so it is of each link end of a node
abbrev pub IsNodeBefore : Slot → NodeRec → Type 0
IsNodeBefore slot rec = AllByRecursion (λ link. IfSome link (IsLinkBefore slot)) rec.links

-- ---- One slot

-- two steps that give the same to the outside, and leave nodes that are alike
pub record StepsAlike (step other : Stepped) : Type 0 where
  pub emitted : step.emitted ≡ other.emitted
  pub alike : NodesAlike step.rec other.rec

-- whatever the node, its code and what comes to it
abbrev pub StepGoesByWindows : Type 0
StepGoesByWindows = (fixed : Fixed) (rec other : NodeRec) (slot : Slot) (arrivals : Arrivals) (pins : PinView) →
    IsNodeBefore slot rec → IsNodeBefore slot other → NodesAlike rec other →
    StepsAlike (node_step fixed rec slot arrivals pins) (node_step fixed other slot arrivals pins)

-- what a step leaves keeps no slot after its own
abbrev pub StepStaysBefore : Type 0
StepStaysBefore = (fixed : Fixed) (rec : NodeRec) (slot : Slot) (arrivals : Arrivals) (pins : PinView) →
    IsNodeBefore slot rec → IsNodeBefore (slot + 1) (node_step fixed rec slot arrivals pins).rec

-- ---- So many slots

-- a node after some slots, and what each of them gave to the outside
pub record Ran : Type 0 where
  pub rec : NodeRec
  pub emitted : List Emitted

abbrev pub and_then : Stepped → Ran → Ran
and_then step later = record { rec = later.rec; emitted = step.emitted ∷ later.emitted }

-- the slots of a node from this one on, in each of which this comes to it
unfoldable pub run_from : Fixed → Slot → List Coming → NodeRec → Ran
run_from fixed slot [] rec = record { rec = rec; emitted = [] }
run_from fixed slot (coming ∷ later) rec =
    let step = node_step fixed rec slot coming.arrivals coming.pins in and_then step (run_from fixed (slot + 1) later step.rec)

-- two runs that give the same to the outside in each slot, and leave nodes that are alike
pub record RunsAlike (run other : Ran) : Type 0 where
  pub emitted : run.emitted ≡ other.emitted
  pub alike : NodesAlike run.rec other.rec

abbrev pub RunGoesByWindows : Type 0
RunGoesByWindows = (fixed : Fixed) (rec other : NodeRec) (slot : Slot) (comes : List Coming) →
    IsNodeBefore slot rec → IsNodeBefore slot other → NodesAlike rec other →
    RunsAlike (run_from fixed slot comes rec) (run_from fixed slot comes other)

abbrev pub RunStaysBefore : Type 0
RunStaysBefore = (fixed : Fixed) (rec : NodeRec) (slot : Slot) (comes : List Coming) →
    IsNodeBefore slot rec → IsNodeBefore (slot + length comes) (run_from fixed slot comes rec).rec
