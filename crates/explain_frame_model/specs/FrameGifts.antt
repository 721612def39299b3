-- What lines of the frame give, by the values of their words.
use Rattle.std.specs.Prelude.{ℕ, zero, suc, ◌+◌, Bool, ◌&&◌, ◌||◌, ◌==◌, is_some, if◌then◌else◌, Option, Some, None, option_map, List, [], ◌∷◌, ◌++◌, length, take, drop, filter, find, flat_map, codes, decimal}
use Rattle.xs_text.specs.Numbers.{number_of, at_most}
use Rattle.xs_instructions.specs.Image.{same_name}
use Rattle.pin_scripts.specs.Pins.{port_of}
use Rattle.system_model.specs.FrameLines.{before_colon}
use Rattle.system_model.specs.Frame.{is_wire_end}
use Rattle.explain_frame_model.specs.declared.frame.Gift.{Gift}
use Rattle.explain_frame_model.specs.declared.frame.Gift.TheVariants.{Node, Id, LinkEnd, Bit, Source, Pins, Play, WireFrom, WireTo, Pin}
use Rattle.explain_frame_model.specs.FrameBefore.{EarlierLine, frame_lines}

-- ---- Values of words

-- a number that no line before gives
abbrev pub greatest : ℕ
greatest = 4294967295

abbrev pub or_greatest : Option ℕ → ℕ
or_greatest None = greatest
or_greatest (Some n) = n

-- the number that a word is: the greatest too where it is none or a greater one
abbrev pub value_of : List ℕ → ℕ
value_of word = or_greatest (at_most greatest (number_of word))

-- what stands before and behind the colon of a word; before it is the whole word where it has no colon
abbrev pub front_of : List ℕ → List ℕ
front_of word = take (before_colon word) word

abbrev pub back_of : List ℕ → List ℕ
back_of word = drop (before_colon word + 1) word

-- the node that `N`, `N:E` or `N:P` names
abbrev pub node_of : List ℕ → ℕ
node_of word = value_of (front_of word)

-- the end that `N:E` names
abbrev pub end_of : List ℕ → ℕ
end_of word = value_of (back_of word)

abbrev pub or_no_port : Option ℕ → ℕ
or_no_port None = 29
or_no_port (Some port) = port

-- the port that `N:P` names, 29 where there is no such port
abbrev pub port_in : List ℕ → ℕ
port_in word = or_no_port (port_of (back_of word))

-- ---- Whether a line gives something

abbrev pub is_link_end : ℕ → ℕ → List ℕ → Bool
is_link_end node end word = (node_of word == node) && (end_of word == end)

abbrev pub is_pin : ℕ → ℕ → List ℕ → Bool
is_pin node port word = (node_of word == node) && (port_in word == port)

abbrev pub gives : Gift → EarlierLine → Bool
gives (Node n) line = same_name (codes "node") line.name && (value_of line.second == n)
gives (Id id) line = same_name (codes "node") line.name && (value_of line.fourth == id)
gives (LinkEnd n e) line = same_name (codes "link") line.name && (is_link_end n e line.second || is_link_end n e line.third)
gives (Bit n b) line = same_name (codes "bit") line.name && ((value_of line.second == n) && (value_of line.third == b))
gives (Source n) line = same_name (codes "source") line.name && (value_of line.second == n)
gives Pins line = same_name (codes "pins") line.name
gives Play line = same_name (codes "play") line.name
gives (WireFrom n) line = same_name (codes "wire") line.name && (node_of line.second == n)
gives (WireTo n) line = same_name (codes "wire") line.name && (node_of line.third == n)
gives (Pin n p) line = same_name (codes "wire") line.name && is_pin n p line.third

-- the number of the first line that gives it
abbrev pub giver : Gift → List EarlierLine → Option ℕ
giver gift lines = option_map (λ (line : EarlierLine). line.number) (find (gives gift) lines)

abbrev pub is_given : Gift → List EarlierLine → Bool
is_given gift lines = is_some (giver gift lines)

-- how many lines give it
abbrev pub count_givers : Gift → List EarlierLine → ℕ
count_givers gift lines = length (filter (gives gift) lines)

-- an end of a node to which or by which something goes, where so many wires do: that of a link, or of a wire
abbrev pub has_end : ℕ → ℕ → List EarlierLine → ℕ → Bool
has_end node wires lines end = is_given (LinkEnd node end) lines || is_wire_end wires end

-- ---- In words

-- the numbers below a limit that pass a test, ascending
unfoldable pub numbers_below : (ℕ → Bool) → ℕ → List ℕ
numbers_below test zero = []
numbers_below test (suc n) = numbers_below test n ++ (if test n then n ∷ [] else [])

abbrev pub numbers_text : List ℕ → List ℕ
numbers_text [] = codes "none"
numbers_text (n ∷ ns) = decimal n ++ flat_map (λ m. codes ", " ++ decimal m) ns

-- the numbers of the nodes that lines give
abbrev pub nodes_text : List EarlierLine → List ℕ
nodes_text lines = numbers_text (numbers_below (λ n. is_given (Node n) lines) 100)

-- the ends of a node that they give: of links 0 to 7, and of as many wires 8 and so on, of which there are at most 32
abbrev pub ends_text : ℕ → ℕ → List EarlierLine → List ℕ
ends_text node wires lines = numbers_text (numbers_below (has_end node wires lines) 40)

-- `line N gives it already`, where a line does
abbrev pub already_line : Option ℕ → List ℕ
already_line None = []
already_line (Some number) = codes "line " ++ (decimal number ++ codes " gives it already\n")

-- the nodes of a system text by all its lines
unfoldable pub system_nodes : List (List ℕ) → List ℕ
system_nodes ls = codes "nodes of the system: " ++ (nodes_text (frame_lines ls) ++ codes "\n")
