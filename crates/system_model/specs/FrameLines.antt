-- The forms of the lines of a frame, by their words. Numbers are taken however great they are.
use Rattle.std.specs.Prelude.{ℕ, ◌+◌, Bool, true, false, not, ◌&&◌, ◌==◌, nat_le, if◌then◌else◌, Option, Some, None, option_map, option_and_then, List, [], ◌∷◌, length, take, drop, min, codes}
use Rattle.std.specs.List.{prefix_len, list_all}
use Rattle.xs_text.specs.Numbers.{number_of}
use Rattle.xs_text.specs.Words.{words_of_line}
use Rattle.pin_scripts.specs.Pins.{port_of}
use Rattle.xs_instructions.specs.Image.{same_name}
use Rattle.system_model.specs.declared.frame_line.EndName.{EndName}
use Rattle.system_model.specs.declared.frame_line.FrameLine.{FrameLine}
use Rattle.system_model.specs.declared.frame_line.FrameLine.TheVariants.{Node, Link, Bit, Wire, Section, Step}
use Rattle.system_model.specs.declared.frame_line.LinkLine.{LinkLine}
use Rattle.system_model.specs.declared.frame_line.NodeLine.{NodeLine}
use Rattle.system_model.specs.declared.frame_line.PinName.{PinName}
use Rattle.system_model.specs.declared.frame_line.PlayLine.{PlayLine}
use Rattle.system_model.specs.declared.frame_line.PlayLine.TheVariants.{Take, Run, Send}
use Rattle.system_model.specs.declared.frame_line.SectionKind.{SectionKind}
use Rattle.system_model.specs.declared.frame_line.SectionKind.TheVariants.{Source, Pins, Play}
use Rattle.system_model.specs.declared.frame_line.WireLine.{WireLine}
use Rattle.system_model.specs.Bits.{BitRec}

infixl 10 ◌>>=◌
abbrev pub ◌>>=◌ : {A B : Type 0} → Option A → (A → Option B) → Option B
o >>= f = option_and_then f o

-- whether words are these, byte for byte
abbrev pub same_words : List (List ℕ) → List (List ℕ) → Bool
same_words [] [] = true
same_words [] (w ∷ ws) = false
same_words (v ∷ vs) [] = false
same_words (v ∷ vs) (w ∷ ws) = same_name v w && same_words vs ws

-- the edition that a word gives, letter by letter
abbrev pub edition_of_word : List ℕ → Option ℕ
edition_of_word word = if same_name (codes "1") word then Some 1 else (if same_name (codes "2") word then Some 2 else None)

-- the edition that a first line gives, which is `xs1 1` or `xs1 2`; other words are no first line
abbrev pub edition_of_header : List (List ℕ) → Option ℕ
edition_of_header (name ∷ edition ∷ []) = if same_name (codes "xs1") name then edition_of_word edition else None
edition_of_header _ = None

-- `end`
abbrev pub is_end : List ℕ → Bool
is_end l = same_words (codes "end" ∷ []) (words_of_line l)

-- `node N id ID`
unfoldable pub node_line : List (List ℕ) → Option NodeLine
node_line (a ∷ n ∷ b ∷ i ∷ []) =
    if same_name (codes "node") a && same_name (codes "id") b
    then (number_of n >>= λ number. number_of i >>= λ id. Some (record { number = number; id = id }))
    else None
node_line _ = None

-- how many bytes of a word stand before its first colon
abbrev pub before_colon : List ℕ → ℕ
before_colon word = prefix_len (λ b. not (b == 58)) word

-- `N:E`: end E of the node N
unfoldable pub end_name : List ℕ → Option EndName
end_name word =
    number_of (take (before_colon word) word) >>= λ node. number_of (drop (before_colon word + 1) word) >>= λ end.
    Some (record { node = node; end = end })

-- the network of a link by the words after its gap: 0 where there are none, and in edition 2 also that of `net K`
abbrev pub net_of_words : ℕ → List (List ℕ) → Option ℕ
net_of_words edition [] = Some 0
net_of_words edition (u ∷ n ∷ []) = if (edition == 2) && same_name (codes "net") u then number_of n else None
net_of_words edition _ = None

-- `link N:E M:F delay D gap G`, in edition 2 also with `net K` after it
unfoldable pub link_line : ℕ → List (List ℕ) → Option LinkLine
link_line edition (k ∷ x ∷ y ∷ v ∷ d ∷ w ∷ g ∷ rest) =
    if same_name (codes "link") k && (same_name (codes "delay") v && same_name (codes "gap") w)
    then (end_name x >>= λ a. end_name y >>= λ b. number_of d >>= λ delay. number_of g >>= λ gap. net_of_words edition rest >>= λ net.
    Some (record { a = a; b = b; delay = delay; gap = gap; net = net }))
    else None
link_line edition _ = None

-- `N:P`: the pin of port P of the node N
unfoldable pub pin_name : List ℕ → Option PinName
pin_name word =
    number_of (take (before_colon word) word) >>= λ node. port_of (drop (before_colon word + 1) word) >>= λ port.
    Some (record { node = node; port = port })

-- `wire N:P M:Q delay D`, in edition 2 alone
unfoldable pub wire_line : ℕ → List (List ℕ) → Option WireLine
wire_line edition (k ∷ x ∷ y ∷ v ∷ d ∷ []) =
    if (edition == 2) && (same_name (codes "wire") k && same_name (codes "delay") v)
    then (pin_name x >>= λ a. pin_name y >>= λ b. number_of d >>= λ delay. Some (record { a = a; b = b; delay = delay }))
    else None
wire_line edition _ = None

-- words that are all numbers
unfoldable pub numbers_of : List (List ℕ) → Option (List ℕ)
numbers_of [] = Some []
numbers_of (w ∷ ws) = number_of w >>= λ n. numbers_of ws >>= λ ns. Some (n ∷ ns)

-- `bit N B E`, with up to seven more link ends
unfoldable pub bit_line : List (List ℕ) → Option BitRec
bit_line (k ∷ n ∷ b ∷ e ∷ more) =
    if same_name (codes "bit") k && nat_le (length more) 7
    then (number_of n >>= λ node. number_of b >>= λ bit. numbers_of (e ∷ more) >>= λ ends.
    Some (record { node = node; bit = bit; ends = ends }))
    else None
bit_line _ = None

-- `pins` and `play`, and `source N`
unfoldable pub section_line : List (List ℕ) → Option SectionKind
section_line (a ∷ []) = if same_name (codes "pins") a then Some Pins else (if same_name (codes "play") a then Some Play else None)
section_line (a ∷ n ∷ []) = if same_name (codes "source") a then option_map Source (number_of n) else None
section_line _ = None

abbrev pub or_line : Option FrameLine → Option FrameLine → Option FrameLine
or_line (Some l) other = Some l
or_line None other = other

-- a line of the frame outside of the sections by its words, in a system of an edition
unfoldable pub frame_line : ℕ → List (List ℕ) → Option FrameLine
frame_line edition words =
    or_line (option_map Node (node_line words))
    (or_line (option_map Link (link_line edition words)) (or_line (option_map Bit (bit_line words))
    (or_line (option_map Wire (wire_line edition words)) (option_map Section (section_line words)))))

-- a run of the node with this number, over so many slots
abbrev pub run_of : List ℕ → Option ℕ → Option PlayLine
run_of n slots = number_of n >>= λ node. slots >>= λ count. Some (Run node count)

-- The end that a step names. No node has an end 255, so a greater number is taken as 255: it names none either.
abbrev pub last_end : EndName → EndName
last_end name = record name { end = min name.end 255 }

abbrev pub step_end : List ℕ → Option EndName
step_end word = option_map last_end (end_name word)

-- a line of the section `play` by its words: `take N:E`, `send N:E`, `run N`, which is a run over one slot, and `run N COUNT`
unfoldable pub play_line : List (List ℕ) → Option PlayLine
play_line (k ∷ x ∷ []) =
    if same_name (codes "take") k then option_map Take (step_end x)
    else (if same_name (codes "send") k then option_map Send (step_end x) else (if same_name (codes "run") k then run_of x (Some 1) else None))
play_line (k ∷ n ∷ count ∷ []) = if same_name (codes "run") k then run_of n (number_of count) else None
play_line _ = None

abbrev pub is_between : ℕ → ℕ → ℕ → Bool
is_between least most n = nat_le least n && nat_le n most

-- the number of a node is at most 99, and that of a link end at most 7
abbrev pub is_node_number : ℕ → Bool
is_node_number n = nat_le n 99

abbrev pub is_end_number : ℕ → Bool
is_end_number n = nat_le n 7

-- and that of a network at most 3
abbrev pub is_net : ℕ → Bool
is_net n = nat_le n 3

abbrev pub is_end_in_range : EndName → Bool
is_end_in_range name = is_node_number name.node && is_end_number name.end

-- whether each number of a line is within its range; which ends a step may name is not a question of range
abbrev pub are_numbers_in_range : FrameLine → Bool
are_numbers_in_range (Node node) = is_node_number node.number && nat_le node.id 65535
are_numbers_in_range (Link link) =
    is_end_in_range link.a && (is_end_in_range link.b && (is_between 1 1000 link.delay && (is_between 4 1000 link.gap && is_net link.net)))
are_numbers_in_range (Bit bit) = is_node_number bit.node && (nat_le bit.bit 15 && list_all is_end_number bit.ends)
are_numbers_in_range (Wire wire) = is_node_number wire.a.node && (is_node_number wire.b.node && is_between 1 1000 wire.delay)
are_numbers_in_range (Section (Source n)) = is_node_number n
are_numbers_in_range (Section Pins) = true
are_numbers_in_range (Section Play) = true
are_numbers_in_range (Step (Take name)) = is_node_number name.node
are_numbers_in_range (Step (Run node count)) = is_node_number node && is_between 1 1000000 count
are_numbers_in_range (Step (Send name)) = is_node_number name.node
