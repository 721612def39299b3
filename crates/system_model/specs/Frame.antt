-- The frame of a system text: all its lines but those of its sources and its pin script. Each line is tested by what the
-- lines before it have given, and the first line that has a fault refuses the text.
use Rattle.std.specs.Prelude.{ℕ, ◌+◌, Bool, true, false, not, ◌&&◌, ◌||◌, ◌==◌, nat_le, nat_lt, if◌then◌else◌, Option, Some, None, option_map, option_to_list, List, [], ◌∷◌, ◌++◌, length, map, filter, find}
use Rattle.std.specs.List.{list_any, list_all}
use Rattle.xs_base.specs.Ids.{port_width}
use Rattle.xs_text.specs.Bytes.{all_allowed}
use Rattle.xs_text.specs.Words.{words_of_line}
use Rattle.system_model.specs.declared.SysKind.{SysKind}
use Rattle.system_model.specs.declared.SysKind.TheVariants.{FirstLine, BadLine, GivenTwice, IdTwice, LinkEndTwice, LinkToItself, NumberOutOfRange, NodeWithoutSource, SectionNotEnded, BitTwice, NoSuchNode, TooMany, WireWithinNode, WidthsDiffer, PinWiredTwice, TooManyWires}
use Rattle.system_model.specs.declared.frame_line.EndName.{EndName}
use Rattle.system_model.specs.declared.frame_line.FrameLine.{FrameLine}
use Rattle.system_model.specs.declared.frame_line.FrameLine.TheVariants.{Node, Link, Bit, Wire, Section, Step}
use Rattle.system_model.specs.declared.frame_line.GivenNode.{GivenNode}
use Rattle.system_model.specs.declared.frame_line.LinkLine.{LinkLine}
use Rattle.system_model.specs.declared.frame_line.PinName.{PinName}
use Rattle.system_model.specs.declared.frame_line.PlayLine.{PlayLine}
use Rattle.system_model.specs.declared.frame_line.PlayLine.TheVariants.{Take, Run, Send}
use Rattle.system_model.specs.declared.frame_line.SectionKind.{SectionKind}
use Rattle.system_model.specs.declared.frame_line.SectionKind.TheVariants.{Source, Pins, Play}
use Rattle.system_model.specs.declared.frame_line.WireLine.{WireLine}
use Rattle.system_model.specs.Bits.{BitRec}
use Rattle.system_model.specs.FrameLines.{edition_of_header, is_end, frame_line, play_line, are_numbers_in_range}

-- a section: what it holds, the line that begins it, and its own lines, of which `play` has none
pub record SectionText : Type 0 where
  pub kind : SectionKind
  pub line : ℕ
  pub lines : List (List ℕ)

-- What the lines so far have given: the edition, which the first line with words gives; the nodes, by ascending number; the links, the bits,
-- the wires, the steps and the sections that have ended, in the order of the lines; and the section that has not ended yet.
pub record Given : Type 0 where
  pub edition : Option ℕ
  pub nodes : List GivenNode
  pub links : List LinkLine
  pub bits : List BitRec
  pub wires : List WireLine
  pub steps : List PlayLine
  pub sections : List SectionText
  pub reading : Option SectionText

abbrev pub nothing_given : Given
nothing_given = record { edition = None; nodes = []; links = []; bits = []; wires = []; steps = []; sections = []; reading = None }

-- What a line says

pub data FrameSays : Type 0 where
  -- it is a section's own
  Own : FrameSays
  -- it ends a section
  End : FrameSays
  -- it has no words
  Blank : FrameSays
  -- it is the first with words, and gives the edition
  Header : (edition : ℕ) → FrameSays
  -- it is the first with words, and is something else
  NoHeader : FrameSays
  -- it is a later one, and has no form
  NoForm : FrameSays
  -- it is a later one of a form
  Form : (form : FrameLine) → FrameSays

abbrev pub says_form : Option FrameLine → FrameSays
says_form None = NoForm
says_form (Some form) = Form form

abbrev pub says_header : Option ℕ → FrameSays
says_header None = NoHeader
says_header (Some edition) = Header edition

-- outside of the sections, by the edition, if a line before it gave one, and by its own words
abbrev pub says_in_frame : Option ℕ → List (List ℕ) → FrameSays
says_in_frame edition [] = Blank
says_in_frame None (w ∷ ws) = says_header (edition_of_header (w ∷ ws))
says_in_frame (Some edition) (w ∷ ws) = says_form (frame_line edition (w ∷ ws))

-- in the section `play`, by its words
abbrev pub says_in_play : List (List ℕ) → FrameSays
says_in_play [] = Blank
says_in_play (w ∷ ws) = says_form (option_map Step (play_line (w ∷ ws)))

-- in a section, by what it holds and its words, where it does not end it
abbrev pub says_in_section : SectionKind → List (List ℕ) → FrameSays
says_in_section (Source n) words = Own
says_in_section Pins words = Own
says_in_section Play words = says_in_play words

abbrev pub says_by : Option ℕ → Option SectionText → List ℕ → FrameSays
says_by edition None l = says_in_frame edition (words_of_line l)
says_by edition (Some section) l = if is_end l then End else says_in_section section.kind (words_of_line l)

-- what a line says after what is given
abbrev pub says : Given → List ℕ → FrameSays
says given l = says_by given.edition given.reading l

-- The tests of a line

abbrev pub has_node : List GivenNode → ℕ → Bool
has_node nodes number = list_any (λ (node : GivenNode). node.number == number) nodes

abbrev pub is_same_end : EndName → EndName → Bool
is_same_end a b = (a.node == b.node) && (a.end == b.end)

-- whether a link end is in a link
abbrev pub has_link_end : List LinkLine → EndName → Bool
has_link_end links name = list_any (λ (link : LinkLine). is_same_end link.a name || is_same_end link.b name) links

-- whether all of these are, as link ends of a node
abbrev pub has_link_ends : List LinkLine → ℕ → List ℕ → Bool
has_link_ends links node ends = list_all (λ end. has_link_end links (record { node = node; end = end })) ends

-- how many of these wires leave the node with a number, and how many come to it
abbrev pub count_leaving : List WireLine → ℕ → ℕ
count_leaving wires node = length (filter (λ (wire : WireLine). wire.a.node == node) wires)

abbrev pub count_coming : List WireLine → ℕ → ℕ
count_coming wires node = length (filter (λ (wire : WireLine). wire.b.node == node) wires)

-- whether an end is one of so many wires of a node, which are its ends from 8 on
abbrev pub is_wire_end : ℕ → ℕ → Bool
is_wire_end count end = nat_le 8 end && nat_lt end (8 + count)

-- whether something comes to an end: by the link that it is in, or by a wire; and whether something leaves by it
abbrev pub has_end_in : List LinkLine → List WireLine → EndName → Bool
has_end_in links wires name = has_link_end links name || is_wire_end (count_coming wires name.node) name.end

abbrev pub has_end_out : List LinkLine → List WireLine → EndName → Bool
has_end_out links wires name = has_link_end links name || is_wire_end (count_leaving wires name.node) name.end

-- whether a step names a node and an end that are given
abbrev pub is_step_of : List GivenNode → List LinkLine → List WireLine → PlayLine → Bool
is_step_of nodes links wires (Take name) = has_node nodes name.node && has_end_in links wires name
is_step_of nodes links wires (Run node count) = has_node nodes node
is_step_of nodes links wires (Send name) = has_node nodes name.node && has_end_out links wires name

abbrev pub is_same_kind : SectionKind → SectionKind → Bool
is_same_kind (Source m) (Source n) = m == n
is_same_kind Pins Pins = true
is_same_kind Play Play = true
is_same_kind _ _ = false

abbrev pub has_section : List SectionText → SectionKind → Bool
has_section sections kind = list_any (λ (section : SectionText). is_same_kind section.kind kind) sections

-- it is the first line with words, and gives no edition
abbrev pub is_other_first_line : FrameSays → Bool
is_other_first_line NoHeader = true
is_other_first_line _ = false

-- the frame looks at each line but a section's own
abbrev pub is_of_the_frame : FrameSays → Bool
is_of_the_frame Own = false
is_of_the_frame _ = true

abbrev pub has_no_form : FrameSays → Bool
has_no_form NoForm = true
has_no_form _ = false

abbrev pub has_frame_number_out_of_range : FrameSays → Bool
has_frame_number_out_of_range (Form form) = not (are_numbers_in_range form)
has_frame_number_out_of_range _ = false

-- it names a node that is not given, or an end that no link and no wire has given
abbrev pub names_none : Given → FrameSays → Bool
names_none given (Form (Link link)) = not (has_node given.nodes link.a.node && has_node given.nodes link.b.node)
names_none given (Form (Bit bit)) = not (has_node given.nodes bit.node && has_link_ends given.links bit.node bit.ends)
names_none given (Form (Wire wire)) = not (has_node given.nodes wire.a.node && has_node given.nodes wire.b.node)
names_none given (Form (Section (Source n))) = not (has_node given.nodes n)
names_none given (Form (Step step)) = not (is_step_of given.nodes given.links given.wires step)
names_none given _ = false

-- it gives the number of a node, the source of a node, the pin script or the schedule once more
abbrev pub is_given_twice : Given → FrameSays → Bool
is_given_twice given (Form (Node node)) = has_node given.nodes node.number
is_given_twice given (Form (Section kind)) = has_section given.sections kind
is_given_twice given _ = false

abbrev pub is_id_twice : Given → FrameSays → Bool
is_id_twice given (Form (Node node)) = list_any (λ (other : GivenNode). other.id == node.id) given.nodes
is_id_twice given _ = false

abbrev pub is_link_to_itself : FrameSays → Bool
is_link_to_itself (Form (Link link)) = link.a.node == link.b.node
is_link_to_itself _ = false

-- whether a number stands twice
abbrev pub stands_twice : List ℕ → Bool
stands_twice [] = false
stands_twice (n ∷ ns) = list_any (λ m. m == n) ns || stands_twice ns

-- it gives a link end twice, or as a link one that a link has
abbrev pub is_link_end_twice : Given → FrameSays → Bool
is_link_end_twice given (Form (Link link)) =
    is_same_end link.a link.b || (has_link_end given.links link.a || has_link_end given.links link.b)
is_link_end_twice given (Form (Bit bit)) = stands_twice bit.ends
is_link_end_twice given _ = false

abbrev pub is_bit_twice : Given → FrameSays → Bool
is_bit_twice given (Form (Bit bit)) =
    list_any (λ (other : BitRec). (other.node == bit.node) && (other.bit == bit.bit)) given.bits
is_bit_twice given _ = false

abbrev pub is_wire_within_node : FrameSays → Bool
is_wire_within_node (Form (Wire wire)) = wire.a.node == wire.b.node
is_wire_within_node _ = false

-- it is a wire between ports of two widths
abbrev pub has_other_widths : FrameSays → Bool
has_other_widths (Form (Wire wire)) = not (port_width wire.a.port == port_width wire.b.port)
has_other_widths _ = false

abbrev pub is_same_pin : PinName → PinName → Bool
is_same_pin a b = (a.node == b.node) && (a.port == b.port)

-- whether a wire leads to a pin
abbrev pub is_wired : List WireLine → PinName → Bool
is_wired wires pin = list_any (λ (wire : WireLine). is_same_pin wire.b pin) wires

abbrev pub is_pin_wired_twice : Given → FrameSays → Bool
is_pin_wired_twice given (Form (Wire wire)) = is_wired given.wires wire.b
is_pin_wired_twice given _ = false

-- a system has at most so many nodes, so many links and so many wires
abbrev pub most_nodes : ℕ
most_nodes = 16

abbrev pub most_links : ℕ
most_links = 48

abbrev pub most_wires : ℕ
most_wires = 32

-- it gives a node or a link more than that
abbrev pub is_too_many : Given → FrameSays → Bool
is_too_many given (Form (Node node)) = nat_le most_nodes (length given.nodes)
is_too_many given (Form (Link link)) = nat_le most_links (length given.links)
is_too_many given _ = false

-- it gives a wire more than that
abbrev pub is_wire_too_many : Given → FrameSays → Bool
is_wire_too_many given (Form (Wire wire)) = nat_le most_wires (length given.wires)
is_wire_too_many given _ = false

-- the test of each kind, by what is given, whether a line's bytes are allowed, and what it says; the other kinds are of no
-- line by itself
abbrev pub has_frame_kind : SysKind → Given → Bool → FrameSays → Bool
has_frame_kind FirstLine given allowed said = is_other_first_line said
has_frame_kind BadLine given allowed said = (is_of_the_frame said && not allowed) || has_no_form said
has_frame_kind NumberOutOfRange given allowed said = has_frame_number_out_of_range said
has_frame_kind NoSuchNode given allowed said = names_none given said
has_frame_kind GivenTwice given allowed said = is_given_twice given said
has_frame_kind IdTwice given allowed said = is_id_twice given said
has_frame_kind LinkToItself given allowed said = is_link_to_itself said
has_frame_kind LinkEndTwice given allowed said = is_link_end_twice given said
has_frame_kind BitTwice given allowed said = is_bit_twice given said
has_frame_kind WireWithinNode given allowed said = is_wire_within_node said
has_frame_kind WidthsDiffer given allowed said = has_other_widths said
has_frame_kind PinWiredTwice given allowed said = is_pin_wired_twice given said
has_frame_kind TooManyWires given allowed said = is_wire_too_many given said
has_frame_kind TooMany given allowed said = is_too_many given said
has_frame_kind _ given allowed said = false

-- the order that decides within a line
abbrev pub frame_order : List SysKind
frame_order =
    FirstLine ∷ BadLine ∷ NumberOutOfRange ∷ NoSuchNode ∷ GivenTwice ∷ IdTwice ∷ LinkToItself ∷ LinkEndTwice ∷ BitTwice
    ∷ WireWithinNode ∷ WidthsDiffer ∷ PinWiredTwice ∷ TooManyWires ∷ TooMany ∷ []

-- the tests of a line in that order
abbrev pub tests : Given → Bool → FrameSays → List (SysKind × Bool)
tests given allowed said = map (λ kind. (kind, has_frame_kind kind given allowed said)) frame_order

-- the kind of the first test that holds
abbrev pub first_that_holds : List (SysKind × Bool) → Option SysKind
first_that_holds [] = None
first_that_holds (test ∷ others) = if test.1 then Some test.0 else first_that_holds others

-- the fault of a line, if it has one, after what is given
abbrev pub fault_of : Given → List ℕ → Option SysKind
fault_of given l = first_that_holds (tests given (all_allowed l) (says given l))

-- What a line gives

-- a node among nodes by ascending number
abbrev pub put_by_number : GivenNode → List GivenNode → List GivenNode
put_by_number node [] = node ∷ []
put_by_number node (n ∷ nodes) = if nat_lt n.number node.number then n ∷ put_by_number node nodes else node ∷ (n ∷ nodes)

abbrev pub with_own_line : List ℕ → SectionText → SectionText
with_own_line l section = record section { lines = section.lines ++ l ∷ [] }

-- what is given after line n
abbrev pub given_with : ℕ → List ℕ → FrameSays → Given → Given
given_with n l Own given = record given { reading = option_map (with_own_line l) given.reading }
given_with n l End given = record given { sections = given.sections ++ option_to_list given.reading; reading = None }
given_with n l (Header edition) given = record given { edition = Some edition }
given_with n l (Form (Node node)) given =
    record given { nodes = put_by_number (record { line = n; number = node.number; id = node.id }) given.nodes }
given_with n l (Form (Link link)) given = record given { links = given.links ++ link ∷ [] }
given_with n l (Form (Bit bit)) given = record given { bits = given.bits ++ bit ∷ [] }
given_with n l (Form (Wire wire)) given = record given { wires = given.wires ++ wire ∷ [] }
given_with n l (Form (Step step)) given = record given { steps = given.steps ++ step ∷ [] }
given_with n l (Form (Section kind)) given =
    record given { reading = Some (record { kind = kind; line = n; lines = [] }) }
given_with n l _ given = given

abbrev pub given_after : ℕ → List ℕ → Given → Given
given_after n l given = given_with n l (says given l) given

-- The whole frame

-- a frame: what it gives, or the line that refuses it and why
pub data Framed : Type 0 where
  Whole : (given : Given) → Framed
  Refused : (line : ℕ) (kind : SysKind) → Framed

-- the first node that has no source
abbrev pub without_source : Given → Option GivenNode
without_source given = find (λ (node : GivenNode). not (has_section given.sections (Source node.number))) given.nodes

abbrev pub whole_but_for : Option GivenNode → Given → Framed
whole_but_for None given = Whole given
whole_but_for (Some node) given = Refused node.line NodeWithoutSource

-- the end of the text: no section may be without an end, and no node without a source
abbrev pub at_the_end : Given → Option SectionText → Framed
at_the_end given (Some section) = Refused section.line SectionNotEnded
at_the_end given None = whole_but_for (without_source given) given

-- line n and those after it, by its fault
abbrev pub unless_faulty : Option SysKind → ℕ → Framed → Framed
unless_faulty None n rest = rest
unless_faulty (Some kind) n rest = Refused n kind

-- the frame of the lines from line n on, after what is given
unfoldable pub frame_from : ℕ → Given → List (List ℕ) → Framed
frame_from n given [] = at_the_end given given.reading
frame_from n given (l ∷ ls) = unless_faulty (fault_of given l) n (frame_from (n + 1) (given_after n l given) ls)

abbrev pub is_empty : List (List ℕ) → Bool
is_empty [] = true
is_empty (w ∷ ws) = false

-- whether no line has words
abbrev pub have_no_words : List (List ℕ) → Bool
have_no_words ls = list_all (λ (l : List ℕ). is_empty (words_of_line l)) ls

-- the frame of a text by its lines, which count from 1
unfoldable pub framed : List (List ℕ) → Framed
framed ls = if have_no_words ls then Refused 1 FirstLine else frame_from 1 nothing_given ls
