-- Channel ends: what programs do with their buffers.
use Rattle.std.specs.Prelude.{ℕ, ◌+◌, ◌*◌, ◌/◌, ◌%◌, Bool, true, false, ◌&&◌, not, ◌==◌, nat_lt, if◌then◌else◌, Option, Some, None, List, [], ◌∷◌, ◌++◌, length, take, drop}
use Rattle.std.specs.List.{list_any}
use Rattle.xs_base.specs.Numbers.{Word, NodeId, ChanNumber, Identifier}
use Rattle.xs_base.specs.declared.numbers.TheConstants.{CHAN_ENDS, CHAN_END_KIND}
use Rattle.xs_base.specs.declared.token.Token.{Token}
use Rattle.xs_base.specs.declared.token.Token.TheVariants.{Byte, Ctrl}
use Rattle.xs_base.specs.Ids.{chan_id}
use Rattle.xs_model.specs.Record.{ChanRec, unused_chan}
use Rattle.xs_model.specs.Free.{lowest_free}
use Rattle.xs_model.specs.Dests.{dest_of}
use Rattle.xs_model.specs.Waits.{has_room, has_tokens, is_control}

-- the number of the channel end of this node that an identifier names, if it names one
abbrev pub chan_named : NodeId → Identifier → Option ChanNumber
chan_named node id =
    let n = (dest_of id).chan in if (id == chan_id node n) && nat_lt n CHAN_ENDS then Some n else None

-- the lowest channel end of a list, whose first has number n, that is not in use
abbrev pub free_chan : List ChanRec → ChanNumber → Option ChanNumber
free_chan chans n = lowest_free (λ chan. chan.used) chans n

-- a channel end that is put in use: its packets take network 0, and all else stays
abbrev pub put_in_use : ChanRec → ChanRec
put_in_use chan = record chan { used = true; net = 0 }

-- one that was got for the first time: its buffers are empty, and it has no destination
abbrev pub got_chan : ChanRec
got_chan = put_in_use unused_chan

-- a channel end that is put out of use: it keeps its network, which only being got sets anew
abbrev pub put_away : ChanRec → ChanRec
put_away chan = record unused_chan { net = chan.net }

-- a channel end is freed where it is in use, its buffers are empty, and the switch is not at work with it
abbrev pub freed_chan : Bool → ChanRec → Option ChanRec
freed_chan is_busy chan =
    if chan.used && (length chan.output == 0) && (length chan.input == 0) && not is_busy then Some (put_away chan) else None

-- what a program finds at a channel end
pub data Found : Type 0 where
  -- the channel end after it, and the word for the program, which is 0 where there is none
  Got : (chan : ChanRec) (word : Word) → Found
  Waits : Found
  Refused : Found

-- a channel end that is not in use refuses whatever a program does there
abbrev pub found_at : (ChanRec → Found) → ChanRec → Found
found_at does chan = if chan.used then does chan else Refused

-- ---- What programs put into the output buffer

abbrev pub put_towards : Option Identifier → List Token → ChanRec → Found
put_towards None tokens chan = Refused
put_towards (Some dest) tokens chan =
    if has_room (length tokens) chan.output then Got (record chan { output = chan.output ++ tokens }) 0 else Waits

-- puts tokens into the output buffer: refused without a destination, and waits until all have room
abbrev pub put_tokens : List Token → ChanRec → Found
put_tokens tokens chan = put_towards chan.dest tokens chan

abbrev pub put_token : Token → ChanRec → Found
put_token t chan = put_tokens (t ∷ []) chan

-- a word as four data bytes, the most significant first
abbrev pub bytes_of_word : Word → List Token
bytes_of_word w = Byte (w / 16777216 % 256) ∷ Byte (w / 65536 % 256) ∷ Byte (w / 256 % 256) ∷ Byte (w % 256) ∷ []

abbrev pub put_word : Word → ChanRec → Found
put_word w chan = put_tokens (bytes_of_word w) chan

-- ---- What programs take from the input buffer. A token of the wrong sort is refused, and stays.

abbrev pub value_of : Token → ℕ
value_of (Byte b) = b
value_of (Ctrl c) = c

-- the number whose digits to the base 256 are those of a number and then the values of tokens
abbrev pub joined : ℕ → List Token → ℕ
joined number [] = number
joined number (t ∷ tokens) = joined (number * 256 + value_of t) tokens

-- takes four data bytes as a word, the most significant first: refused where one of the first four is a control token
abbrev pub take_word : ChanRec → Found
take_word chan =
    if list_any is_control (take 4 chan.input) then Refused
    else (if nat_lt (length chan.input) 4 then Waits
    else Got (record chan { input = drop 4 chan.input }) (joined 0 (take 4 chan.input)))

-- takes the first token, where it passes a test, and finds its value
abbrev pub take_where : (Token → Bool) → List Token → ChanRec → Found
take_where test [] chan = Waits
take_where test (t ∷ rest) chan = if test t then Got (record chan { input = rest }) (value_of t) else Refused

-- takes a data byte
abbrev pub take_byte : ChanRec → Found
take_byte chan = take_where (λ t. not (is_control t)) chan.input chan

-- takes a control token
abbrev pub take_ctrl : ChanRec → Found
take_ctrl chan = take_where is_control chan.input chan

abbrev pub is_ctrl_of : ℕ → Token → Bool
is_ctrl_of value (Byte b) = false
is_ctrl_of value (Ctrl c) = c == value

-- takes the control token of a value
abbrev pub check_token : ℕ → ChanRec → Found
check_token value chan = take_where (is_ctrl_of value) chan.input chan

abbrev pub truth : Bool → Word
truth true = 1
truth false = 0

abbrev pub look_at : List Token → ChanRec → Found
look_at [] chan = Waits
look_at (t ∷ rest) chan = Got chan (truth (is_control t))

-- looks whether the first token is a control token, and takes none
abbrev pub look : ChanRec → Found
look chan = look_at chan.input chan

-- the place of the first control token, where the first token has place n; 0 where there is none
abbrev pub control_place : ℕ → List Token → ℕ
control_place n [] = 0
control_place n (t ∷ tokens) = if is_control t then n else control_place (n + 1) tokens

-- looks for the place, 1 to 4, of the first control token among the first four, and takes none: it waits until four tokens
-- are there or one of them is a control token
abbrev pub look_word : ChanRec → Found
look_word chan = if has_tokens 4 chan.input then Got chan (control_place 1 (take 4 chan.input)) else Waits

-- ---- Its destination

-- whether an identifier's low byte is that of channel ends
abbrev pub is_chan_id : Identifier → Bool
is_chan_id id = id % 256 == CHAN_END_KIND

-- takes a destination, which is refused where its low byte is not that of channel ends, whatever node and number it has
abbrev pub take_dest : Identifier → ChanRec → Found
take_dest dest chan = if is_chan_id dest then Got (record chan { dest = Some dest }) 0 else Refused

abbrev pub dest_or_0 : Option Identifier → Word
dest_or_0 None = 0
dest_or_0 (Some dest) = dest

-- tells its destination, 0 where it has none
abbrev pub tell_dest : ChanRec → Found
tell_dest chan = Got chan (dest_or_0 chan.dest)

-- ---- Its network

-- the networks are 0 to 3
abbrev pub is_network : ℕ → Bool
is_network n = nat_lt n 4

-- takes a network for the packets that begin from now on: a number that is none is refused
abbrev pub take_net : Word → ChanRec → Found
take_net n chan = if is_network n then Got (record chan { net = n }) 0 else Refused

-- tells its network
abbrev pub tell_net : ChanRec → Found
tell_net chan = Got chan chan.net

-- a channel end after what was found there
abbrev pub chan_after : ChanRec → Found → ChanRec
chan_after chan (Got after word) = after
chan_after chan Waits = chan
chan_after chan Refused = chan
