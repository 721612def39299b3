-- Forms that are said outside of the sections: in edition 1 each link is of network 0.
use Rattle.std.proofs.Common.{◌≡◌, ℕ, Bool, true, false, ◌&&◌, List, [], ◌∷◌, Option, Some, None, refl, sym, ap, ◌∙◌, option_map, cond, subst}
use Rattle.std.specs.Prelude.{codes, if◌then◌else◌}
use Rattle.xs_text.specs.Words.{words_of_line}
use Rattle.xs_text.specs.Numbers.{number_of}
use Rattle.xs_instructions.specs.Image.{same_name}
use Rattle.system_model.specs.declared.frame_line.EndName.{EndName}
use Rattle.system_model.specs.declared.frame_line.FrameLine.{FrameLine}
use Rattle.system_model.specs.declared.frame_line.FrameLine.TheVariants.{Node, Link, Bit, Wire, Section, Step}
use Rattle.system_model.specs.declared.frame_line.LinkLine.{LinkLine}
use Rattle.system_model.specs.declared.frame_line.NodeLine.{NodeLine}
use Rattle.system_model.specs.declared.frame_line.PlayLine.{PlayLine}
use Rattle.system_model.specs.declared.frame_line.SectionKind.{SectionKind}
use Rattle.system_model.specs.declared.frame_line.SectionKind.TheVariants.{Source, Pins, Play}
use Rattle.system_model.specs.declared.frame_line.WireLine.{WireLine}
use Rattle.system_model.specs.Bits.{BitRec}
use Rattle.system_model.specs.FrameLines.{node_line, link_line, net_of_words, bit_line, wire_line, section_line, frame_line, or_line, end_name, edition_of_header, play_line, is_end}
use Rattle.system_model.specs.Frame.{SectionText, Given, End, Form, says_form, says_header, says_in_frame, says_in_play, says_in_section, says_by, says}
use Rattle.system_model.specs.System.{edition_given}
use Rattle.system_text.proofs.Forms.{link_of}

no_net : (words : List (List ℕ)) (net : ℕ) → net_of_words 1 words ≡ Some net → net ≡ 0
no_net [] net e = cc
no_net (u ∷ []) net e = absurd cc
no_net (u ∷ n ∷ []) net e = absurd cc
no_net (u ∷ n ∷ x ∷ words) net e = absurd cc

-- the network of a link is the one that is read for it
of_parts : (p q : Option EndName) (d g k : Option ℕ) (link : LinkLine) → ((net : ℕ) → k ≡ Some net → net ≡ 0) → link_of p q d g k ≡ Some link → link.net ≡ 0
of_parts None q d g k link h e = absurd cc
of_parts (Some a) None d g k link h e = absurd cc
of_parts (Some a) (Some b) None g k link h e = absurd cc
of_parts (Some a) (Some b) (Some m) None k link h e = absurd cc
of_parts (Some a) (Some b) (Some m) (Some n) None link h e = absurd cc
of_parts (Some a) (Some b) (Some m) (Some n) (Some o) link h e =
    let made : LinkLine = record { a = a; b = b; delay = m; gap = n; net = o } in
    let same : made ≡ link = cc in
    sym (ap (λ (l : LinkLine). l.net) same) ∙ h o refl

by_names : (named : Bool) (o : Option LinkLine) (link : LinkLine) → (o ≡ Some link → link.net ≡ 0) → (if named then o else None) ≡ Some link → link.net ≡ 0
by_names true o link h e = h e
by_names false o link h e = absurd cc

line_of_0 : (words : List (List ℕ)) (link : LinkLine) → link_line 1 words ≡ Some link → link.net ≡ 0
unfolding link_line
line_of_0 [] link e = absurd cc
line_of_0 (k ∷ []) link e = absurd cc
line_of_0 (k ∷ x ∷ []) link e = absurd cc
line_of_0 (k ∷ x ∷ y ∷ []) link e = absurd cc
line_of_0 (k ∷ x ∷ y ∷ v ∷ []) link e = absurd cc
line_of_0 (k ∷ x ∷ y ∷ v ∷ d ∷ []) link e = absurd cc
line_of_0 (k ∷ x ∷ y ∷ v ∷ d ∷ w ∷ []) link e = absurd cc
line_of_0 (k ∷ x ∷ y ∷ v ∷ d ∷ w ∷ g ∷ rest) link e =
    by_names (same_name (codes "link") k && (same_name (codes "delay") v && same_name (codes "gap") w))
    (link_of (end_name x) (end_name y) (number_of d) (number_of g) (net_of_words 1 rest)) link
    (of_parts (end_name x) (end_name y) (number_of d) (number_of g) (net_of_words 1 rest) link (no_net rest)) e

-- a line that is read as a link, or as a wire, has the form of one
abbrev pub read_as : Option NodeLine → Option LinkLine → Option BitRec → Option WireLine → Option SectionKind → Option FrameLine
read_as n l b w s =
    or_line (option_map (λ (x : NodeLine). Node x) n) (or_line (option_map (λ (x : LinkLine). Link x) l)
    (or_line (option_map (λ (x : BitRec). Bit x) b) (or_line (option_map (λ (x : WireLine). Wire x) w) (option_map (λ (x : SectionKind). Section x) s))))

as_link : (n : Option NodeLine) (l : Option LinkLine) (b : Option BitRec) (w : Option WireLine) (s : Option SectionKind) (link : LinkLine) → read_as n l b w s ≡ Some (Link link) → l ≡ Some link
as_link (Some n) l b w s link e = absurd cc
as_link None (Some l) b w s link e = cc
as_link None None (Some b) w s link e = absurd cc
as_link None None None (Some w) s link e = absurd cc
as_link None None None None (Some s) link e = absurd cc
as_link None None None None None link e = absurd cc

pub as_wire : (n : Option NodeLine) (l : Option LinkLine) (b : Option BitRec) (w : Option WireLine) (s : Option SectionKind) (wire : WireLine) → read_as n l b w s ≡ Some (Wire wire)
    → w ≡ Some wire
as_wire (Some n) l b w s wire e = absurd cc
as_wire None (Some l) b w s wire e = absurd cc
as_wire None None (Some b) w s wire e = absurd cc
as_wire None None None (Some w) s wire e = cc
as_wire None None None None (Some s) wire e = absurd cc
as_wire None None None None None wire e = absurd cc

frame_line_of_0 : (words : List (List ℕ)) (link : LinkLine) → frame_line 1 words ≡ Some (Link link) → link.net ≡ 0
unfolding frame_line
frame_line_of_0 words link e = line_of_0 words link (as_link (node_line words) (link_line 1 words) (bit_line words) (wire_line 1 words) (section_line words) link e)

-- A form that is no step is that of a line outside of the sections, in an edition that is given.

abbrev IsNoStep : FrameLine → Type 0
IsNoStep (Step step) = ⊥
IsNoStep _ = Unit {0}

-- a line has a form in the edition that is given
pub record IsSaidOutside (given : Option ℕ) (words : List (List ℕ)) (form : FrameLine) : Type 0 where
  pub edition : ℕ
  pub is_given : given ≡ Some edition
  pub said : frame_line edition words ≡ Some form

said_form : (o : Option FrameLine) (form : FrameLine) → says_form o ≡ Form form → o ≡ Some form
said_form None form e = absurd cc
said_form (Some f) form e = cc

header_no_form : (o : Option ℕ) (form : FrameLine) → says_header o ≡ Form form → ⊥
header_no_form None form e = cc
header_no_form (Some edition) form e = cc

in_frame : (given : Option ℕ) (words : List (List ℕ)) (form : FrameLine) → says_in_frame given words ≡ Form form → IsSaidOutside given words form
in_frame given [] form s = absurd cc
in_frame None (w ∷ ws) form s = absurd (header_no_form (edition_of_header (w ∷ ws)) form s)
in_frame (Some edition) (w ∷ ws) form s = record { edition = edition; is_given = refl; said = said_form (frame_line edition (w ∷ ws)) form s }

step_only : (o : Option PlayLine) (form : FrameLine) → IsNoStep form → says_form (option_map (λ (x : PlayLine). Step x) o) ≡ Form form → ⊥
step_only None form n e = cc
step_only (Some step) form n e = let is : form ≡ Step step = cc in subst IsNoStep is n

in_play : (words : List (List ℕ)) (form : FrameLine) → IsNoStep form → says_in_play words ≡ Form form → ⊥
in_play [] form n e = cc
in_play (w ∷ ws) form n e = step_only (play_line (w ∷ ws)) form n e

in_section : (kind : SectionKind) (words : List (List ℕ)) (form : FrameLine) → IsNoStep form → says_in_section kind words ≡ Form form → ⊥
in_section (Source i) words form n e = cc
in_section Pins words form n e = cc
in_section Play words form n e = in_play words form n e

in_end : (end : Bool) (kind : SectionKind) (words : List (List ℕ)) (form : FrameLine) → IsNoStep form → cond end End (says_in_section kind words) ≡ Form form → ⊥
in_end true kind words form n e = cc
in_end false kind words form n e = in_section kind words form n e

by_reading : (given : Option ℕ) (reading : Option SectionText) (l : List ℕ) (form : FrameLine) → IsNoStep form → says_by given reading l ≡ Form form
    → IsSaidOutside given (words_of_line l) form
by_reading given None l form n s = in_frame given (words_of_line l) form s
by_reading given (Some section) l form n s = absurd (in_end (is_end l) section.kind (words_of_line l) form n s)

pub said_outside : (given : Given) (l : List ℕ) (form : FrameLine) → IsNoStep form → says given l ≡ Form form → IsSaidOutside given.edition (words_of_line l) form
said_outside given l form n s = by_reading given.edition given.reading l form n s

of_edition_1 : (given : Option ℕ) (words : List (List ℕ)) (link : LinkLine) → IsSaidOutside given words (Link link) → edition_given given ≡ 1 → link.net ≡ 0
of_edition_1 given words link s e =
    let one : s.edition ≡ 1 = sym (ap edition_given s.is_given) ∙ e in
    frame_line_of_0 words link (subst (λ (n : ℕ). frame_line n words ≡ Some (Link link)) one s.said)

pub of_network_0 : (given : Given) (l : List ℕ) (link : LinkLine) → says given l ≡ Form (Link link) → edition_given given.edition ≡ 1 → link.net ≡ 0
of_network_0 given l link s e = of_edition_1 given.edition (words_of_line l) link (said_outside given l (Link link) tt s) e
