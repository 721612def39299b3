-- A node alone, worked out by hand: the second one of a pair to which the first sends END by a link with a delay of 5 slots.
use Rattle.std.specs.Prelude.{◌≡◌, List, [], ◌∷◌, slice_index_or}
use Rattle.xs_base.specs.Numbers.{Slot}
use Rattle.xs_base.specs.declared.token.Token.TheVariants.{Byte, Ctrl}
use Rattle.xs_base.specs.declared.entry.Entry.{Entry}
use Rattle.xs_model.specs.declared.event.Happen.TheVariants as happen
use Rattle.xs_model.specs.Outside.{in_slot}
use Rattle.worked_runs.specs.Systems.{token_sent, credit_sent, talking_pair, receiving_node}
use Rattle.locality_laws.specs.Alone.{AloneRec, alone, heard_by}

-- the header bytes of the packet, and its END
abbrev pub header : List Entry
header = token_sent 13 (Byte 0) ∷ token_sent 17 (Byte 1) ∷ token_sent 21 (Byte 0) ∷ []

abbrev pub packet : List Entry
packet = token_sent 13 (Byte 0) ∷ token_sent 17 (Byte 1) ∷ token_sent 21 (Byte 0) ∷ token_sent 25 (Ctrl 1) ∷ []

-- the second node, where this was heard of the link to it, and that of the link by which it sends
abbrev pub receiver : List Entry → List Entry → Slot → AloneRec
receiver forth back slots = alone talking_pair (heard_by talking_pair (forth ∷ back ∷ []) 1) 1 receiving_node slots

-- END is sent in slot 25, and so arrives in slot 30: there it is delivered, and before it nobody can miss it
pub record ReceiverAlone : Type 0 where
  pub delivered : (receiver packet [] 31).events ≡ in_slot 30 (happen.Chan 0 (Ctrl 1)) ∷ []
  pub credits : slice_index_or (receiver packet [] 31).sent 0 [] ≡ credit_sent 18 ∷ credit_sent 22 ∷ credit_sent 26 ∷ credit_sent 30 ∷ []
  pub other_ends : slice_index_or (receiver packet [] 31).sent 1 [] ≡ []
  pub not_yet_missed : slice_index_or (receiver header [] 30).sent 0 [] ≡ credit_sent 18 ∷ credit_sent 22 ∷ credit_sent 26 ∷ []
  pub missed : (receiver header [] 31).events ≡ []
  -- by the link that leaves it, it hears nothing
  pub deaf_backward : (receiver packet packet 31).events ≡ (receiver packet [] 31).events
