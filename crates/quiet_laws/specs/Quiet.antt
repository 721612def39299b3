-- What quiet slots leave of a node, and which of its slots is the first that is not quiet.
use Rattle.std.specs.Prelude.{ℕ, ◌≡◌, ◌-◌, ◌<◌, ◌||◌, true, false, []}
use Rattle.xs_base.specs.Numbers.{Slot}
use Rattle.xs_model.specs.declared.outside.PinView.{PinView}
use Rattle.xs_model.specs.Record.{CoreRec, NodeRec}
use Rattle.xs_model.specs.Outside.{emitted_events}
use Rattle.xs_model.specs.Ports.{levels_of}
use Rattle.step_model.specs.Fixed.{Fixed}
use Rattle.step_model.specs.Step.{node_step}
use Rattle.quiet_model.specs.Slots.{NoneBefore, IsFirst}
use Rattle.quiet_model.specs.Clocks.{ports_counted}
use Rattle.quiet_model.specs.Still.{still}
use Rattle.quiet_model.specs.Stirs.{some_eligible, ports_stir, stirs}
use Rattle.quiet_laws.specs.Undisturbed.{no_arrivals, undisturbed_until, IsWhole, ShowsAll}

-- a core after so many slots, from this one on, in which its ports did nothing but count
abbrev pub core_counted : Slot → ℕ → CoreRec → CoreRec
core_counted from count core = record core { ports = ports_counted core.clocks from count core.ports }

-- a node after so many quiet slots, from this one on, in the last of which its pins showed this from outside: its ports counted,
-- and what its pins show was noted
abbrev pub only_counted : Slot → ℕ → PinView → NodeRec → NodeRec
only_counted from count last rec =
    record rec { core = core_counted from count rec.core; levels = levels_of rec.core.ports last.level }

-- a slot in which nothing arrives and the node does not stir changes nothing else, and gives nothing
abbrev pub QuietSlotOnlyCounts : Type 0
QuietSlotOnlyCounts = (fixed : Fixed) (rec : NodeRec) (slot : Slot) (pins : PinView) →
    IsWhole rec.core → ShowsAll pins → stirs rec slot ≡ false →
    node_step fixed rec slot no_arrivals pins ≡ record { rec = only_counted slot 1 pins rec; emitted = emitted_events [] }

-- in none of the slots from one on and before another does a node stir at which nothing arrives
abbrev pub IsQuietUntil : Fixed → NodeRec → Slot → (Slot → PinView) → Slot → Type 0
IsQuietUntil fixed rec from pins slot = NoneBefore (λ t. stirs (undisturbed_until fixed rec from pins t) t) from slot

-- all these slots together change nothing else
abbrev pub QuietSlotsOnlyCount : Type 0
QuietSlotsOnlyCount = (fixed : Fixed) (rec : NodeRec) (from : Slot) (pins : Slot → PinView) (slot : Slot) →
    IsWhole rec.core → ((t : Slot) → ShowsAll (pins t)) → from < slot → IsQuietUntil fixed rec from pins slot →
    undisturbed_until fixed rec from pins slot ≡ only_counted from (slot - from) (pins (slot - 1)) rec

-- the first slot in which a node stirs at which nothing arrives
abbrev pub StirsFirst : Fixed → NodeRec → Slot → (Slot → PinView) → Slot → Slot → Type 0
StirsFirst fixed rec from pins bound result = IsFirst (λ t. stirs (undisturbed_until fixed rec from pins t) t) from bound result

-- it can be found from the node as it is: of a still one as the first in which a thread may issue or a port's next transfer
-- begins, when until then ports only count
abbrev pub StillNodeStirsFirst : Type 0
StillNodeStirsFirst = (fixed : Fixed) (rec : NodeRec) (from : Slot) (pins : Slot → PinView) (bound result : Slot) →
    IsWhole rec.core → ((t : Slot) → ShowsAll (pins t)) → still rec ≡ true →
    IsFirst (λ t. ports_stir rec.core.clocks t (ports_counted rec.core.clocks from (t - from) rec.core.ports) || some_eligible rec.core t) from bound result →
    StirsFirst fixed rec from pins bound result

-- and of another as the slot itself
abbrev pub OtherNodeStirsNow : Type 0
OtherNodeStirsNow = (fixed : Fixed) (rec : NodeRec) (from : Slot) (pins : Slot → PinView) (bound : Slot) →
    still rec ≡ false → from < bound → StirsFirst fixed rec from pins bound from
