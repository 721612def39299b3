-- Channel ends in a snapshot.
use Rattle.std.specs.Prelude.{◌≡◌, ◌<◌, true, None, [], IfSome}
use Rattle.xs_model.specs.Record.{ChanRec}
use Rattle.net_model.specs.Chans.{is_chan_id}
use Rattle.chan_ends.specs.declared.state.ChanState.{ChanState}

-- what a snapshot keeps of a channel end: all that there is
abbrev pub chan_state : ChanRec → ChanState
chan_state chan = record {
  used = chan.used;
  net = chan.net;
  dest = chan.dest;
  output = record { items = chan.output };
  input = record { items = chan.input };
}

-- the channel end that a state says
abbrev pub chan_of : ChanState → ChanRec
chan_of state = record { used = state.used; net = state.net; dest = state.dest; output = state.output.items; input = state.input.items }

-- what holds of every channel end, in use or not: its network is one of 0 to 3, its destination is some channel end's, and
-- where it has none no token waits to leave
pub record IsChan (chan : ChanRec) : Type 0 where
  pub net : chan.net < 4
  pub dest : IfSome chan.dest (λ id. is_chan_id id ≡ true)
  pub output : chan.dest ≡ None → chan.output ≡ []

-- a state says what may be so of a channel end
abbrev pub IsChanState : ChanState → Type 0
IsChanState state = IsChan (chan_of state)
