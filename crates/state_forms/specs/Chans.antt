-- How channel ends stand in bytes.
use Rattle.std.specs.Prelude.{ℕ, ◌<◌, Bool, true, Option, is_some, IfSome}
use Rattle.arrayvec.specs.ArrayVec.{ArrayVec}
use Rattle.xs_base.specs.declared.token.Token.{Token}
use Rattle.net_model.specs.Chans.{is_chan_id}
use Rattle.chan_ends.specs.declared.state.ChanState.{ChanState}
use Rattle.byte_forms.specs.Forms.{Form, byte, word, flag, below, both, seen_as, option}
use Rattle.state_forms.specs.Buffers.{buffer, BufferFits}

-- whether it is in use, its network, its destination, and the tokens that wait to leave and that arrived
abbrev pub ChanFields : Type 0
ChanFields = Bool × (ℕ × (Option ℕ × (ArrayVec Token × ArrayVec Token)))

abbrev pub chan_of_fields : ChanFields → ChanState
chan_of_fields f = record { used = f.0; net = f.1.0; dest = f.1.1.0; output = f.1.1.1.0; input = f.1.1.1.1 }

abbrev pub fields_of_chan : ChanState → ChanFields
fields_of_chan c = (c.used, (c.net, (c.dest, (c.output, c.input))))

-- A channel end, in use or not: its network is 0 to 3, the low byte of its destination is that of channel ends, and without a destination
-- no token waits to leave, which is refused at their count.
unfoldable pub chan : Form ChanState
chan =
    seen_as (both flag (λ used. both (below byte 4) (λ net. both (option word is_chan_id) (λ dest. both (buffer (is_some dest)) (λ output. buffer true)))))
    chan_of_fields fields_of_chan

-- what every state of a channel end has: its numbers are of their types
pub record ChanFits (state : ChanState) : Type 0 where
  pub dest : IfSome state.dest (λ id. id < 4294967296)
  pub output : BufferFits state.output
  pub input : BufferFits state.input
