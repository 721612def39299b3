-- How the inputs of the switch stand in bytes.
use Rattle.std.specs.Prelude.{ℕ, ◌≡◌, ◌<◌, ◌*◌, ◌+◌, ◌/◌, ◌%◌, Bool, true, false, ◌&&◌, not, ◌==◌, nat_lt, nat_le, List, [], ◌∷◌, length, slice_index_or}
use Rattle.std.specs.List.{list_any}
use Rattle.xs_base.specs.Numbers.{ChanNumber, EndNumber, InputNumber}
use Rattle.xs_base.specs.declared.numbers.TheConstants.{LINK_ENDS, CHAN_ENDS, INPUTS, HEADER_BYTES}
use Rattle.net_model.specs.Chans.{is_chan_id, is_network}
use Rattle.net_model.specs.Switch.{is_local_to, is_out_by}
use Rattle.switch_routes.specs.States.{input_of}
use Rattle.switch_routes.specs.declared.state.InputState.{InputState}
use Rattle.switch_routes.specs.declared.state.InputState.TheVariants.{Idle, Head1, Head2, Want, Local, Out, Lost}
use Rattle.switch_forms.specs.declared.input.Tag.{Tag}
use Rattle.switch_forms.specs.declared.input.Tag.TheVariants as tag
use Rattle.byte_forms.specs.Forms.{Form, byte, word, where_is, below, both, seen_as, told_by, chain}

-- ---- Tags

abbrev pub number_of : Tag → ℕ
number_of tag.Idle = 0
number_of tag.Head1 = 1
number_of tag.Head2 = 2
number_of tag.Want = 3
number_of tag.Local = 4
number_of tag.Out = 5
number_of tag.Lost = 6

abbrev pub tags : List Tag
tags = tag.Idle ∷ tag.Head1 ∷ tag.Head2 ∷ tag.Want ∷ tag.Local ∷ tag.Out ∷ tag.Lost ∷ []

abbrev pub tag_of : ℕ → Tag
tag_of n = slice_index_or tags n tag.Lost

-- the first inputs are those of link ends, and only they take headers
abbrev pub may_be_at : InputNumber → Tag → Bool
may_be_at place tag.Head1 = nat_lt place LINK_ENDS
may_be_at place tag.Head2 = nat_lt place LINK_ENDS
may_be_at place _ = true

unfoldable pub tag_at : InputNumber → Form Tag
tag_at place = where_is (seen_as (below byte 7) tag_of number_of) (may_be_at place)

-- ---- What may stand behind a tag

-- an input may hold a channel end that is in use, where none of those before it holds it
abbrev pub may_hold_chan : List Bool → List InputState → ChanNumber → Bool
may_hold_chan used before chan =
    nat_lt chan CHAN_ENDS && slice_index_or used chan false && not (list_any (λ s. is_local_to chan (input_of s)) before)

-- an input may hold a link end that is there, where none of those before it holds it
abbrev pub may_hold_end : List Bool → List InputState → EndNumber → Bool
may_hold_end there before end =
    nat_lt end LINK_ENDS && slice_index_or there end false && not (list_any (λ s. is_out_by end (input_of s)) before)

-- The operand: the first header byte * 256, both as first * 256 + second, a channel end, a link end * 256 + how many header bytes went
-- out, or else 0.
abbrev pub is_operand : List Bool → List Bool → List InputState → Tag → ℕ → Bool
is_operand used there before tag.Head1 n = nat_lt n 65536 && (n % 256 == 0)
is_operand used there before tag.Head2 n = nat_lt n 65536
is_operand used there before tag.Local n = may_hold_chan used before n
is_operand used there before tag.Out n = may_hold_end there before (n / 256) && nat_le (n % 256) HEADER_BYTES
is_operand used there before _ n = n == 0

-- an operand is two bytes, and that of a channel end one
abbrev pub OperandFits : Tag → ℕ → Type 0
OperandFits tag.Local n = n < 256
OperandFits _ n = n < 65536

-- the destination of a packet that wants to go, or goes out
abbrev pub is_dest : Tag → ℕ → Bool
is_dest tag.Want id = is_chan_id id
is_dest tag.Out id = is_chan_id id
is_dest _ id = id == 0

-- the network of a packet that wants to go
abbrev pub is_net : Tag → ℕ → Bool
is_net tag.Want n = is_network n
is_net _ n = n == 0

-- ---- Inputs

-- a tag, an operand, a destination and a network
abbrev pub InputFields : Type 0
InputFields = Tag × (ℕ × (ℕ × ℕ))

abbrev pub input_said : Tag → ℕ → ℕ → ℕ → InputState
input_said tag.Idle n dest net = Idle
input_said tag.Head1 n dest net = Head1 (n / 256)
input_said tag.Head2 n dest net = Head2 (n / 256) (n % 256)
input_said tag.Want n dest net = Want dest net
input_said tag.Local n dest net = Local n
input_said tag.Out n dest net = Out (n / 256) (n % 256) dest
input_said tag.Lost n dest net = Lost

abbrev pub input_of_fields : InputFields → InputState
input_of_fields f = input_said f.0 f.1.0 f.1.1.0 f.1.1.1

abbrev pub fields_of_input : InputState → InputFields
fields_of_input Idle = (tag.Idle, (0, (0, 0)))
fields_of_input (Head1 first) = (tag.Head1, (first * 256, (0, 0)))
fields_of_input (Head2 first second) = (tag.Head2, (first * 256 + second, (0, 0)))
fields_of_input (Want dest net) = (tag.Want, (0, (dest, net)))
fields_of_input (Local chan) = (tag.Local, (chan, (0, 0)))
fields_of_input (Out end count dest) = (tag.Out, (end * 256 + count, (dest, 0)))
fields_of_input Lost = (tag.Lost, (0, (0, 0)))

abbrev pub input_fields : List Bool → List Bool → List InputState → Form InputFields
input_fields used there before =
    both (tag_at (length before)) (λ t. both (where_is word (is_operand used there before t)) (λ n. both (where_is word (is_dest t)) (λ dest. where_is byte (is_net t))))

-- The input after those before it, of a node whose channel ends in use and whose link ends are these. What it holds, no input before
-- it holds, which is refused at the operand.
unfoldable pub input : List Bool → List Bool → List InputState → Form InputState
input used there before = told_by (input_fields used there before) input_of_fields fields_of_input

-- the inputs of a switch
abbrev pub inputs : List Bool → List Bool → Form (List InputState)
inputs used there = chain INPUTS (input used there)

-- what every input has: its numbers are of their types
abbrev pub InputFits : InputState → Type 0
InputFits (Head1 first) = first < 256
InputFits (Head2 first second) = (first < 256) × (second < 256)
InputFits (Want dest net) = dest < 4294967296
InputFits (Out end count dest) = dest < 4294967296
InputFits _ = Unit {0}
