-- The lines of the trace that tell of events. Slots, counts, token values and the numbers of traps, nodes, threads and
-- channel ends are decimal; pin values, addresses, trap data and identifiers are 0x and eight lower-case hex digits.
use Rattle.std.specs.Prelude.{ℕ, ◌+◌, ◌-◌, ◌/◌, ◌%◌, nat_lt, if◌then◌else◌, List, [], ◌∷◌, ◌++◌, codes, decimal}
use Rattle.xs_base.specs.declared.token.Token.{Token}
use Rattle.xs_base.specs.declared.token.Token.TheVariants.{Byte, Ctrl}
use Rattle.xs_model.specs.declared.event.Event.{Event}
use Rattle.xs_model.specs.declared.event.Happen.{Happen}
use Rattle.xs_model.specs.declared.event.Happen.TheVariants as happen

abbrev pub hex_digit : ℕ → ℕ
hex_digit n = if nat_lt n 10 then 48 + n else 87 + n

-- the hex digit of n at this unit, a power of 16
abbrev pub hex_digit_at : ℕ → ℕ → ℕ
hex_digit_at unit n = hex_digit (n / unit % 16)

-- 0x and eight hex digits
unfoldable pub hex_word : ℕ → List ℕ
hex_word w =
    48 ∷ 120 ∷ hex_digit_at 0x10000000 w ∷ hex_digit_at 0x1000000 w ∷ hex_digit_at 0x100000 w ∷ hex_digit_at 0x10000 w
    ∷ hex_digit_at 0x1000 w ∷ hex_digit_at 0x100 w ∷ hex_digit_at 0x10 w ∷ hex_digit_at 1 w ∷ []

-- the name of a port: its width and its letter, counted from A among the ports of that width
abbrev pub port_name : ℕ → List ℕ
port_name port =
    if nat_lt port 16 then 49 ∷ (65 + port) ∷ []
    else (if nat_lt port 22 then 52 ∷ (65 + (port - 16)) ∷ []
    else (if nat_lt port 26 then 56 ∷ (65 + (port - 22)) ∷ []
    else (if nat_lt port 28 then 49 ∷ 54 ∷ (65 + (port - 26)) ∷ []
    else 51 ∷ 50 ∷ 65 ∷ [])))

-- a token as it is told: dt and a data byte, ct and a control token
abbrev pub token_text : Token → List ℕ
token_text (Byte b) = codes "dt " ++ decimal b
token_text (Ctrl c) = codes "ct " ++ decimal c

-- what a line says after its slot and node, for each kind of happening
abbrev pub drive_text : ℕ → ℕ → List ℕ
drive_text port value = codes " pin " ++ (port_name port ++ (codes " " ++ hex_word value))

abbrev pub float_text : ℕ → List ℕ
float_text port = codes " pin " ++ (port_name port ++ codes " float")

abbrev pub chan_text : ℕ → Token → List ℕ
chan_text chan token = codes " chan " ++ (decimal chan ++ (codes " " ++ token_text token))

abbrev pub lost_text : ℕ → List ℕ
lost_text id = codes " lost " ++ hex_word id

abbrev pub trap_text : ℕ → ℕ → ℕ → ℕ → List ℕ
trap_text thread et pc ed =
    codes ".t" ++ (decimal thread ++ (codes " trap " ++ (decimal et ++ (codes " pc " ++ (hex_word pc ++ (codes " data " ++ hex_word ed))))))

abbrev pub halt_text : ℕ → List ℕ
halt_text thread = codes ".t" ++ (decimal thread ++ codes " halt")

abbrev pub happening_text : Happen → List ℕ
happening_text (happen.Drive port value) = drive_text port value
happening_text (happen.Float port) = float_text port
happening_text (happen.Chan chan token) = chan_text chan token
happening_text (happen.Lost id) = lost_text id
happening_text (happen.Trap thread et pc ed) = trap_text thread et pc ed
happening_text (happen.Halt thread) = halt_text thread

-- the line of an event of a node
abbrev pub event_line : ℕ → Event → List ℕ
event_line node e = decimal e.slot ++ (codes " n" ++ (decimal node ++ (happening_text e.what ++ (10 ∷ []))))
