-- A core's channel ends, as a list of 32 by their numbers, and what calls leave of them.
use Rattle.std.specs.Prelude.{ℕ, ◌≡◌, ◌<◌, Bool, Option, Some, None, List, slice_index_or, slice_set}
use Rattle.xs_base.specs.Numbers.{ChanNumber}
use Rattle.xs_base.specs.declared.numbers.TheConstants.{CHAN_ENDS}
use Rattle.xs_model.specs.Masks.{in_mask}
use Rattle.xs_model.specs.Record.{ChanRec, unused_chan}
use Rattle.xs_model.specs.Choices.{waits_in}
use Rattle.net_model.specs.Chans.{Found, Got, Waits, Refused, put_in_use}

abbrev pub chan_at : List ChanRec → ChanNumber → ChanRec
chan_at chans c = slice_index_or chans c unused_chan

abbrev pub has_output : ChanRec → Bool
has_output chan = waits_in chan.output

-- a mask has the bits of exactly those channel ends that pass a test
abbrev pub IsMask : (ChanRec → Bool) → ℕ → List ChanRec → Type 0
IsMask test mask chans = (c : ℕ) → c < CHAN_ENDS → in_mask mask c ≡ test (chan_at chans c)

-- the channel ends after a program found this at one of them
abbrev pub chans_after : List ChanRec → ChanNumber → Found → List ChanRec
chans_after chans c (Got chan word) = slice_set chans c chan
chans_after chans c Waits = chans
chans_after chans c Refused = chans

-- a channel end after it was freed, where it could be
abbrev pub chan_where_freed : ChanRec → Option ChanRec → ChanRec
chan_where_freed chan None = chan
chan_where_freed chan (Some after) = after

-- the channel ends after one of them was freed, where it could be
abbrev pub with_freed : List ChanRec → ChanNumber → Option ChanRec → List ChanRec
with_freed chans c None = chans
with_freed chans c (Some chan) = slice_set chans c chan

-- the channel ends after the one with this number was got, if there is one
abbrev pub with_got : List ChanRec → Option ChanNumber → List ChanRec
with_got chans None = chans
with_got chans (Some c) = slice_set chans c (put_in_use (chan_at chans c))
