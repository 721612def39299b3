-- What the lines of a load have given, after each of them: the first nodes, then the first links, then the first bits, then the first sections.
use Rattle.std.proofs.Common.{◌≡◌, ℕ, suc, ◌+◌, ◌*◌, ◌<◌, true, false, not, nat_lt, ◌&&◌, List, [], ◌∷◌, ◌++◌, refl, ap, ◌∙◌, arith}
use Rattle.std.specs.Prelude.{Some, None, ◌==◌}
use Rattle.std.specs.List.{list_any}
use Rattle.std.proofs.lemmas.Bool.{or_parts, or_from, or_left, and_from, and_left, and_right, cond-true, not-false, not_from_true, lt-ltb, eq-eqb, ne_eqb}
use Rattle.system_model.specs.declared.frame_line.GivenNode.{GivenNode}
use Rattle.system_model.specs.declared.frame_line.LinkLine.{LinkLine}
use Rattle.system_model.specs.declared.frame_line.SectionKind.TheVariants.{Source}
use Rattle.system_model.specs.Bits.{BitRec}
use Rattle.system_model.specs.Frame.{Given, SectionText, put_by_number, has_node, has_link_end, has_section}
use Rattle.load_model.specs.Load.{node_count, next_node, delay_at, gap_at, route_bit_at, destination_at, first_word_at, source_lines}
use Rattle.load_laws.proofs.Counted.{firsts, any_none, any_one}
use Rattle.load_laws.proofs.Ring.{next_node_apart}

-- what the line of a node gives
abbrev pub node_given : ℕ → GivenNode
node_given i = record { line = 2 + i; number = i; id = i }

-- the line of a link
abbrev pub link_given : ℕ → ℕ → LinkLine
link_given n i = record { a = record { node = i; end = 0 }; b = record { node = next_node n i; end = 1 }; delay = delay_at n i; gap = gap_at i; net = 0 }

-- the line of a bit
abbrev pub bit_given : ℕ → ℕ → BitRec
bit_given n i = record { node = i; bit = route_bit_at n i; ends = 0 ∷ [] }

-- the section of a source, where the first begins at this line
abbrev pub section_given : ℕ → ℕ → ℕ → SectionText
section_given n at i = record { kind = Source i; line = at + i * 24; lines = source_lines (destination_at n i) (first_word_at n i) }

-- the first k of each
abbrev pub nodes_of : ℕ → List GivenNode
nodes_of k = firsts node_given k

abbrev pub links_of : ℕ → ℕ → List LinkLine
links_of n k = firsts (link_given n) k

abbrev pub bits_of : ℕ → ℕ → List BitRec
bits_of n k = firsts (bit_given n) k

-- the sections, the first of which begins at this line
abbrev pub sections_of : ℕ → ℕ → ℕ → List SectionText
sections_of n at k = firsts (section_given n at) k

-- so many nodes, links, bits and sections
abbrev pub given_of : ℕ → ℕ → ℕ → ℕ → ℕ → ℕ → Given
given_of n at nodes links bits sections =
    record { edition = Some 1; nodes = nodes_of nodes; links = links_of n links; bits = bits_of n bits; wires = []; steps = []; sections = sections_of n at sections; reading = None }

-- a node that comes after all others by number is put behind them
put_last : (node : GivenNode) (others : List GivenNode) → list_any (λ (other : GivenNode). not (nat_lt other.number node.number)) others ≡ false → put_by_number node others ≡ others ++ node ∷ []
put_last node [] h = refl
put_last node (other ∷ others) h =
    let parts = or_parts (not (nat_lt other.number node.number)) _ h in
    cond-true (nat_lt other.number node.number) (other ∷ put_by_number node others) (node ∷ (other ∷ others)) (not-false _ parts.0)
    ∙ ap (λ ns. other ∷ ns) (put_last node others parts.1)

-- so the next node goes behind those below it
pub put_next : (k : ℕ) → put_by_number (node_given k) (nodes_of k) ≡ nodes_of (suc k)
put_next k = put_last (node_given k) (nodes_of k) (any_none (λ (other : GivenNode). not (nat_lt other.number k)) node_given k (λ i l. not_from_true _ (lt-ltb i k l)))

-- its number is not given yet
pub no_node : (k : ℕ) → has_node (nodes_of k) k ≡ false
no_node k = any_none (λ (node : GivenNode). node.number == k) node_given k (λ i l. ne_eqb i k (λ e. omega (arith, l, e)))

-- neither is its id
pub no_id : (k : ℕ) → list_any (λ (other : GivenNode). other.id == k) (nodes_of k) ≡ false
no_id k = any_none (λ (node : GivenNode). node.id == k) node_given k (λ i l. ne_eqb i k (λ e. omega (arith, l, e)))

-- each number below the count is a node
pub is_node : (c i : ℕ) → i < c → has_node (nodes_of c) i ≡ true
is_node c i l = any_one (λ (node : GivenNode). node.number == i) node_given c i l (eq-eqb i i refl)

-- the first end of the next link is in no link before it
pub first_end_free : (n k : ℕ) → has_link_end (links_of n k) (record { node = k; end = 0 }) ≡ false
first_end_free n k =
    any_none _ (link_given n) k (λ i l. or_from ((i == k) && (0 == 0)) ((next_node n i == k) && (1 == 0)) (and_left (i == k) _ (ne_eqb i k (λ e. omega (arith, l, e)))) (and_right (next_node n i == k) _ refl))

-- neither is the second
pub second_end_free : (n k : ℕ) → k < node_count n → has_link_end (links_of n k) (record { node = next_node n k; end = 1 }) ≡ false
second_end_free n k h =
    any_none _ (link_given n) k (λ i l. or_from ((i == next_node n k) && (0 == 1)) ((next_node n i == next_node n k) && (1 == 1)) (and_right (i == next_node n k) _ refl) (and_left (next_node n i == next_node n k) _ (next_node_apart n k i h l)))

-- each node has the first end of its link
pub first_end_given : (n c i : ℕ) → i < c → has_link_end (links_of n c) (record { node = i; end = 0 }) ≡ true
first_end_given n c i l =
    any_one _ (link_given n) c i l (or_left ((i == i) && (0 == 0)) _ (and_from (i == i) (0 == 0) (eq-eqb i i refl) refl))

-- the next node has no bit yet
pub no_bit : (n k bit : ℕ) → list_any (λ (other : BitRec). (other.node == k) && (other.bit == bit)) (bits_of n k) ≡ false
no_bit n k bit = any_none _ (bit_given n) k (λ i l. and_left (i == k) _ (ne_eqb i k (λ e. omega (arith, l, e))))

-- the next node has no source yet
pub no_section : (n at k : ℕ) → has_section (sections_of n at k) (Source k) ≡ false
no_section n at k = any_none _ (section_given n at) k (λ i l. ne_eqb i k (λ e. omega (arith, l, e)))

-- each node below has its source
pub is_section : (n at c i : ℕ) → i < c → has_section (sections_of n at c) (Source i) ≡ true
is_section n at c i l = any_one _ (section_given n at) c i l (eq-eqb i i refl)
