-- All lines of a load, one after the other: its frame is whole.
use Rattle.std.proofs.Common.{◌≡◌, ℕ, suc, ◌+◌, ◌*◌, ◌<◌, Bool, true, false, not, List, [], ◌∷◌, ◌++◌, map, refl, sym, ap, ◌∙◌, arith, append-nil}
use Rattle.std.specs.Prelude.{Option, None, find, codes}
use Rattle.std.specs.List.{list_any, flat_map}
use Rattle.std.proofs.lemmas.Bool.{or_parts, or_from, cond-false, not_from_true}
use Rattle.std.proofs.lemmas.List.Folds.{list_any-append}
use Rattle.xs_text.specs.Bytes.{all_allowed}
use Rattle.xs_text.specs.Words.{without_comment, parted}
use Rattle.system_model.specs.declared.frame_line.GivenNode.{GivenNode}
use Rattle.system_model.specs.declared.frame_line.SectionKind.TheVariants.{Source}
use Rattle.system_model.specs.FrameLines.{is_end}
use Rattle.system_model.specs.Frame.{Given, Whole, has_section, nothing_given, whole_but_for, frame_from, framed}
use Rattle.load_model.specs.Load.{node_count, node_numbers, destination_at, first_word_at, node_text, link_text, bit_text, source_text, data_text, program, source_lines, node_section, load_lines}
use Rattle.load_laws.proofs.Counted.{any_none}
use Rattle.load_laws.proofs.Ring.{most_count, destination_below, first_word_below}
use Rattle.load_laws.proofs.Taken.{taken, lines_from, blocks_from}
use Rattle.load_laws.proofs.States.{node_given, nodes_of, links_of, bits_of, sections_of, given_of, is_node, no_section, is_section}
use Rattle.load_laws.proofs.FrameSteps.{node_step, link_step, bit_step}
use Rattle.load_laws.proofs.SectionSteps.{section_step}
use Rattle.load_laws.proofs.LinesRead.{node_allowed, node_read, link_allowed, link_read, bit_allowed, bit_read, source_allowed, source_read, data_no_end}

-- the first line is the header
header_taken : (n at : ℕ) (ls : List (List ℕ)) → frame_from 1 nothing_given (codes "xs1 1" ∷ ls) ≡ frame_from 2 (given_of n at 0 0 0 0) ls
unfolding without_comment parted
header_taken n at ls = taken 1 nothing_given (given_of n at 0 0 0 0) (codes "xs1 1") ls refl refl

-- a node is below 16
below_sixteen : (n i : ℕ) → i < node_count n → i < 16
below_sixteen n i l = omega (arith, most_count n)

-- the lines of the nodes
nodes_taken : (n at : ℕ) (ls : List (List ℕ)) → frame_from 2 (given_of n at 0 0 0 0) (map node_text (node_numbers n) ++ ls) ≡ frame_from (2 + node_count n) (given_of n at (node_count n) 0 0 0) ls
nodes_taken n at ls =
    lines_from node_text (λ k. given_of n at k 0 0 0) 2 (node_count n) ls
    (λ i l rest. let h = below_sixteen n i l in node_step n at (2 + i) i (node_text i) rest h refl (node_allowed i h) (node_read i h))

-- the lines of the links
links_taken : (n at m : ℕ) (ls : List (List ℕ)) → n < 4294967296
    → frame_from m (given_of n at (node_count n) 0 0 0) (map (link_text n) (node_numbers n) ++ ls) ≡ frame_from (m + node_count n) (given_of n at (node_count n) (node_count n) 0 0) ls
links_taken n at m ls small =
    lines_from (link_text n) (λ k. given_of n at (node_count n) k 0 0) m (node_count n) ls
    (λ i l rest. let h = below_sixteen n i l in link_step n at (m + i) i (link_text n i) rest l (link_allowed n i small h) (link_read n i small h))

-- the lines of the bits
bits_taken : (n at m : ℕ) (ls : List (List ℕ)) → n < 4294967296
    → frame_from m (given_of n at (node_count n) (node_count n) 0 0) (map (bit_text n) (node_numbers n) ++ ls) ≡ frame_from (m + node_count n) (given_of n at (node_count n) (node_count n) (node_count n) 0) ls
bits_taken n at m ls small =
    lines_from (bit_text n) (λ k. given_of n at (node_count n) (node_count n) k 0) m (node_count n) ls
    (λ i l rest. let h = below_sixteen n i l in bit_step n at (m + i) i (bit_text n i) rest l (bit_allowed n i small h) (bit_read n i small h))

-- no line of a source ends its section
program_no_end : list_any is_end program ≡ false
unfolding without_comment parted
program_no_end = refl

-- nor does one of a whole source
source_no_end : (target value : ℕ) → target < 4294967296 → value < 4294967296 → list_any is_end (source_lines target value) ≡ false
source_no_end target value t v =
    list_any-append is_end program (data_text target value ∷ []) ∙ or_from _ _ program_no_end (or_from _ _ (data_no_end target value t v) refl)

-- the last line does, and its bytes are allowed
end_ends : is_end (codes "end") ≡ true
unfolding without_comment parted
end_ends = refl

end_allowed : all_allowed (codes "end") ≡ true
end_allowed = refl

-- a whole section
section_taken : (n at i : ℕ) (ls : List (List ℕ)) → i < node_count n
    → frame_from (at + i * 24) (given_of n at (node_count n) (node_count n) (node_count n) i) (node_section n i ++ ls)
    ≡ frame_from (at + i * 24 + 24) (given_of n at (node_count n) (node_count n) (node_count n) (suc i)) ls
section_taken n at i ls l =
    let h = below_sixteen n i l in
    section_step (nodes_of (node_count n)) (links_of n (node_count n)) (bits_of n (node_count n)) (sections_of n at i) i (at + i * 24) (at + i * 24 + 24)
    (source_text i) (codes "end") (source_lines (destination_at n i) (first_word_at n i)) ls h
    (is_node (node_count n) i l) (no_section n at i) (source_allowed i h) (source_read i h)
    (source_no_end (destination_at n i) (first_word_at n i) (destination_below n i) (first_word_below n i)) end_ends end_allowed (omega arith)

-- all sections
sections_taken : (n at : ℕ)
    → frame_from at (given_of n at (node_count n) (node_count n) (node_count n) 0) (flat_map (node_section n) (node_numbers n))
    ≡ frame_from (at + node_count n * 24) (given_of n at (node_count n) (node_count n) (node_count n) (node_count n)) []
sections_taken n at =
    ap (λ ls. frame_from at (given_of n at (node_count n) (node_count n) (node_count n) 0) ls) (sym (append-nil (flat_map (node_section n) (node_numbers n))))
    ∙ blocks_from (node_section n) (λ k. given_of n at (node_count n) (node_count n) (node_count n) k) at 24 (node_count n) [] (λ i l ls. section_taken n at i ls l)

-- where no element passes a test, none is found
none_found : {X : Type 0} (p : X → Bool) (xs : List X) → list_any p xs ≡ false → find p xs ≡ None
none_found p [] h = refl
none_found p (x ∷ xs) h = let parts = or_parts (p x) (list_any p xs) h in cond-false (p x) _ _ parts.0 ∙ none_found p xs parts.1

-- at the end each node has its source
whole_at_end : (n at m c : ℕ) → frame_from m (given_of n at c c c c) [] ≡ Whole (given_of n at c c c c)
unfolding frame_from
whole_at_end n at m c =
    ap (λ (o : Option GivenNode). whole_but_for o (given_of n at c c c c))
    (none_found (λ (node : GivenNode). not (has_section (sections_of n at c) (Source node.number))) (nodes_of c)
    (any_none (λ (node : GivenNode). not (has_section (sections_of n at c) (Source node.number))) node_given c (λ i l. not_from_true _ (is_section n at c i l))))

-- the line at which the first section begins
abbrev pub sections_at : ℕ → ℕ
sections_at n = 2 + node_count n + node_count n + node_count n

-- all that the lines of a load give
abbrev pub all_given : ℕ → Given
all_given n = given_of n (sections_at n) (node_count n) (node_count n) (node_count n) (node_count n)

-- a text with the header has words
has_header : (ls : List (List ℕ)) → framed (codes "xs1 1" ∷ ls) ≡ frame_from 1 nothing_given (codes "xs1 1" ∷ ls)
unfolding framed without_comment parted
has_header ls = refl

-- the frame of a load is whole
pub frame_is_whole : (n : ℕ) → n < 4294967296 → framed (load_lines n) ≡ Whole (all_given n)
frame_is_whole n small =
    has_header _
    ∙ header_taken n (sections_at n) _
    ∙ nodes_taken n (sections_at n) _
    ∙ links_taken n (sections_at n) (2 + node_count n) _ small
    ∙ bits_taken n (sections_at n) (2 + node_count n + node_count n) _ small
    ∙ sections_taken n (sections_at n)
    ∙ whole_at_end n (sections_at n) _ (node_count n)
