-- Where an issue is made.
use Rattle.std.specs.Prelude.{ℕ, ◌≡◌, ◌<◌, Bool}
use Rattle.xs_base.specs.Numbers.{Slot, NodeId, ChanNumber}
use Rattle.xs_base.specs.declared.numbers.TheConstants.{CHAN_ENDS}
use Rattle.xs_model.specs.declared.outside.PinView.{PinView}
use Rattle.step_model.specs.Effect.{Setting}

-- these channel ends are at work
abbrev pub AreBusy : (ChanNumber → Bool) → Setting → Type 0
AreBusy is_busy here = (c : ℕ) → c < CHAN_ENDS → here.is_busy c ≡ is_busy c

-- on the node with this id, in this slot, with pins that show this from outside, and with these channel ends at work
pub record IsHere (node : NodeId) (now : Slot) (pins : PinView) (is_busy : ChanNumber → Bool) (here : Setting) : Type 0 where
  pub id : here.id ≡ node
  pub slot : here.slot ≡ now
  pub outside : here.outside ≡ pins.level
  pub busy : AreBusy is_busy here
