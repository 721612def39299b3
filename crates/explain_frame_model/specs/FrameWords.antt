-- The words of a line of the frame at which it is faulty, where its form is good.
use Rattle.std.specs.Prelude.{ℕ, Bool, not, ◌||◌, ◌==◌, if◌then◌else◌, Option, Some, None, List, [], ◌∷◌, ◌++◌, drop, get_or, find, codes, decimal}
use Rattle.std.specs.List.{list_any}
use Rattle.xs_base.specs.Ids.{port_width}
use Rattle.xs_instructions.specs.Image.{same_name}
use Rattle.explain_model.specs.Words.{PlacedWord}
use Rattle.explain_frame_model.specs.declared.frame.Gift.{Gift}
use Rattle.explain_frame_model.specs.declared.frame.Gift.TheVariants.{Node, Id, LinkEnd, Bit, Source, Pins, Play, WireFrom, WireTo, Pin}
use Rattle.explain_frame_model.specs.FrameBefore.{EarlierLine}
use Rattle.explain_frame_model.specs.FrameGifts.{value_of, node_of, end_of, port_in, back_of, is_given, giver, count_givers, nodes_text, ends_text, already_line}

abbrev pub no_word : PlacedWord
no_word = record { at = 0; bytes = [] }

-- a word of a line by its position, from 0
abbrev pub word_at : List PlacedWord → ℕ → PlacedWord
word_at words i = get_or words i no_word

abbrev pub bytes_at : List PlacedWord → ℕ → List ℕ
bytes_at words i = (word_at words i).bytes

abbrev pub begins : List ℕ → List PlacedWord → Bool
begins name words = same_name name (bytes_at words 0)

-- ---- Given twice

-- what `node N`, `source N`, `pins` or `play` gives, and the word that says which
abbrev pub gift_again : List PlacedWord → Gift
gift_again words =
    if begins (codes "node") words then Node (value_of (bytes_at words 1))
    else (if begins (codes "source") words then Source (value_of (bytes_at words 1))
    else (if begins (codes "pins") words then Pins else Play))

abbrev pub word_again : List PlacedWord → PlacedWord
word_again words = if begins (codes "node") words || begins (codes "source") words then word_at words 1 else word_at words 0

-- the id of a node, the bit of a node, and the pin to which a wire comes
abbrev pub id_again : List PlacedWord → Gift
id_again words = Id (value_of (bytes_at words 3))

abbrev pub bit_again : List PlacedWord → Gift
bit_again words = Bit (value_of (bytes_at words 1)) (value_of (bytes_at words 2))

abbrev pub pin_again : List PlacedWord → Gift
pin_again words = Pin (node_of (bytes_at words 2)) (port_in (bytes_at words 2))

-- ---- A link end twice

abbrev pub has_value : ℕ → List PlacedWord → Bool
has_value value words = list_any (λ (word : PlacedWord). value_of word.bytes == value) words

-- the first of some words that has the value of one before it, after other words
unfoldable pub first_repeated : List PlacedWord → List PlacedWord → PlacedWord
first_repeated before [] = no_word
first_repeated before (word ∷ words) =
    if has_value (value_of word.bytes) before then word else first_repeated (before ++ word ∷ []) words

abbrev pub link_end : List ℕ → Gift
link_end word = LinkEnd (node_of word) (end_of word)

-- the first of the ends of a link that an earlier link has
abbrev pub end_again : List EarlierLine → List PlacedWord → PlacedWord
end_again lines words = if is_given (link_end (bytes_at words 1)) lines then word_at words 1 else word_at words 2

-- of a bit the link ends stand from the fourth word on
abbrev pub link_end_again : List EarlierLine → List PlacedWord → PlacedWord
link_end_again lines words = if begins (codes "bit") words then first_repeated [] (drop 3 words) else end_again lines words

abbrev pub end_again_line : List EarlierLine → List PlacedWord → List ℕ
end_again_line lines words =
    if begins (codes "bit") words then codes "this line gives it already\n"
    else already_line (giver (link_end (end_again lines words).bytes) lines)

-- ---- A node or an end that no line gives

-- the words that name nodes: of a link and a wire two, of other lines one
abbrev pub node_words : List PlacedWord → List PlacedWord
node_words words =
    if begins (codes "link") words || begins (codes "wire") words then word_at words 1 ∷ word_at words 2 ∷ [] else word_at words 1 ∷ []

abbrev pub is_unknown_node : List EarlierLine → PlacedWord → Bool
is_unknown_node lines word = not (is_given (Node (node_of word.bytes)) lines)

abbrev pub unknown_node : List EarlierLine → List PlacedWord → Option PlacedWord
unknown_node lines words = find (is_unknown_node lines) (node_words words)

-- the node whose ends a line names, and how many of its wires count: those that come to it, or those that leave it, or none
abbrev pub node_in : List PlacedWord → ℕ
node_in words = node_of (bytes_at words 1)

abbrev pub wires_of : List EarlierLine → List PlacedWord → ℕ
wires_of lines words =
    if begins (codes "take") words then count_givers (WireTo (node_in words)) lines
    else (if begins (codes "send") words then count_givers (WireFrom (node_in words)) lines else 0)

abbrev pub or_no_word : Option PlacedWord → PlacedWord
or_no_word None = no_word
or_no_word (Some word) = word

-- the first of the words of a bit that names an end of the node that no link has; a step names one end
abbrev pub unknown_end : List EarlierLine → List PlacedWord → PlacedWord
unknown_end lines words =
    if begins (codes "bit") words
    then or_no_word (find (λ (word : PlacedWord). not (is_given (LinkEnd (node_in words) (value_of word.bytes)) lines)) (drop 3 words))
    else word_at words 1

abbrev pub unknown_or : Option PlacedWord → PlacedWord → PlacedWord
unknown_or None word = word
unknown_or (Some node) word = node

abbrev pub unknown_word : List EarlierLine → List PlacedWord → PlacedWord
unknown_word lines words = unknown_or (unknown_node lines words) (unknown_end lines words)

abbrev pub nodes_line : List EarlierLine → List ℕ
nodes_line lines = codes "nodes given before: " ++ (nodes_text lines ++ codes "\n")

abbrev pub ends_line : ℕ → ℕ → List EarlierLine → List ℕ
ends_line node wires lines =
    codes "ends of node " ++ (decimal node ++ (codes " given before: " ++ (ends_text node wires lines ++ codes "\n")))

abbrev pub unknown_line_by : Option PlacedWord → List EarlierLine → List PlacedWord → List ℕ
unknown_line_by None lines words = ends_line (node_in words) (wires_of lines words) lines
unknown_line_by (Some node) lines words = nodes_line lines

abbrev pub unknown_line : List EarlierLine → List PlacedWord → List ℕ
unknown_line lines words = unknown_line_by (unknown_node lines words) lines words

-- ---- Of two ends or pins

abbrev pub both_line : List PlacedWord → List ℕ
both_line words = codes "both are of node " ++ (decimal (node_of (bytes_at words 2)) ++ codes "\n")

abbrev pub width_text : List ℕ → List ℕ
width_text word = back_of word ++ (codes " has width " ++ decimal (port_width (port_in word)))

-- of the ports of two pins
abbrev pub widths_line : List ℕ → List ℕ → List ℕ
widths_line a b = codes "port " ++ (width_text a ++ (codes ", port " ++ (width_text b ++ codes "\n")))

-- ---- Too much, or too little

abbrev pub too_many_line : List PlacedWord → List ℕ
too_many_line words =
    if begins (codes "node") words then codes "a system has at most 16 nodes\n" else codes "a system has at most 48 links\n"

abbrev pub no_source_line : List PlacedWord → List ℕ
no_source_line words = codes "no line source " ++ (decimal (node_in words) ++ codes " comes\n")
