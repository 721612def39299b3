-- The load generator. The load of a number is the text of a system of 2 to 16 nodes in a ring, in which each node sends a word and END to the node after it and
-- takes those of the node before it, 200 times.
use Rattle.std.specs.Prelude.{ℕ, ◌+◌, ◌*◌, ◌/◌, ◌%◌, unwrap_or, List, [], ◌∷◌, ◌++◌, map, codes, decimal}
use Rattle.std.specs.List.{range_with_len, flat_map}
use Rattle.net_model.specs.Ways.{first_difference}
use Rattle.trace_model.specs.EventLines.{hex_word}

-- how many nodes there are
abbrev pub node_count : ℕ → ℕ
node_count n = 2 + n % 15

-- their numbers, which are their ids too
abbrev pub node_numbers : ℕ → List ℕ
node_numbers n = range_with_len 0 (node_count n)

-- the node after node i
abbrev pub next_node : ℕ → ℕ → ℕ
next_node n i = (i + 1) % node_count n

-- the delay and the gap of the link from node i to the node after it, in slots
abbrev pub delay_at : ℕ → ℕ → ℕ
delay_at n i = 1 + (n / 15 + 7 * i) % 50

abbrev pub gap_at : ℕ → ℕ
gap_at i = 4 + i % 5

-- the highest bit in which the ids of node i and the node after it differ
abbrev pub route_bit_at : ℕ → ℕ → ℕ
route_bit_at n i = unwrap_or (first_difference 16 i (next_node n i)) 0

-- the two words of node i's data that differ from node to node: channel end 0 of the node after it, and the word that it sends first
abbrev pub destination_at : ℕ → ℕ → ℕ
destination_at n i = next_node n i * 65536 + 2

abbrev pub first_word_at : ℕ → ℕ → ℕ
first_word_at n i = (n + 40503 * i) % 4294967296

-- ---- Lines

-- `node I id I`
abbrev pub node_text : ℕ → List ℕ
node_text i = codes "node " ++ (decimal i ++ (codes " id " ++ decimal i))

-- `link I:0 J:1 delay D gap G`, by its numbers, and that from node i to the node after it
abbrev pub link_line : ℕ → ℕ → ℕ → ℕ → List ℕ
link_line i j delay gap =
    codes "link " ++ (decimal i ++ (codes ":0 " ++ (decimal j ++ (codes ":1 delay " ++ (decimal delay ++ (codes " gap " ++ decimal gap))))))

abbrev pub link_text : ℕ → ℕ → List ℕ
link_text n i = link_line i (next_node n i) (delay_at n i) (gap_at i)

-- `bit I B 0`
abbrev pub bit_text : ℕ → ℕ → List ℕ
bit_text n i = codes "bit " ++ (decimal i ++ (codes " " ++ (decimal (route_bit_at n i) ++ codes " 0")))

-- `source I`
abbrev pub source_text : ℕ → List ℕ
source_text i = codes "source " ++ decimal i

-- what all sources have in common: r2 is the word that is sent next, r7 the sum of the words that came
abbrev pub program : List (List ℕ)
program =
    codes "main:" ∷ codes "  getr r0, 2" ∷ codes "  ldw r1, dp[0]" ∷ codes "  setd res[r0], r1" ∷ codes "  ldw r2, dp[1]"
    ∷ codes "  ldw r3, dp[2]" ∷ codes "  ldw r4, dp[3]" ∷ codes "  ldw r5, dp[4]" ∷ codes "loop:" ∷ codes "  out res[r0], r2"
    ∷ codes "  outct res[r0], 1" ∷ codes "  in r6, res[r0]" ∷ codes "  chkct res[r0], 1" ∷ codes "  add r7, r7, r6"
    ∷ codes "  mul r2, r2, r4" ∷ codes "  add r2, r2, r5" ∷ codes "  sub r3, r3, 1" ∷ codes "  bt r3, loop" ∷ codes "  stw r7, dp[5]"
    ∷ codes "  freet" ∷ codes ".data" ∷ []

-- the data: the two words, how often a word is sent, and the multiplier and the increment by which each word gives the next one
abbrev pub data_text : ℕ → ℕ → List ℕ
data_text destination first = codes "  .word " ++ (hex_word destination ++ (codes ", " ++ (hex_word first ++ codes ", 200, 1664525, 1013904223")))

-- the lines of a source with these two words
abbrev pub source_lines : ℕ → ℕ → List (List ℕ)
source_lines destination first = program ++ (data_text destination first ∷ [])

-- the section of node i's source
abbrev pub node_section : ℕ → ℕ → List (List ℕ)
node_section n i = source_text i ∷ (source_lines (destination_at n i) (first_word_at n i) ++ (codes "end" ∷ []))

-- ---- The text

abbrev pub load_lines : ℕ → List (List ℕ)
load_lines n =
    codes "xs1 1" ∷ (map node_text (node_numbers n) ++ (map (link_text n) (node_numbers n) ++ (map (bit_text n) (node_numbers n) ++ flat_map (node_section n) (node_numbers n))))

-- lines, each with its end
abbrev pub text_of_lines : List (List ℕ) → List ℕ
text_of_lines lines = flat_map (λ (line : List ℕ). line ++ (10 ∷ [])) lines

unfoldable pub load_text : ℕ → List ℕ
load_text n = text_of_lines (load_lines n)
