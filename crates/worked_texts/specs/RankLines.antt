-- Lines of ranks, read by hand.
use Rattle.std.specs.Prelude.{ℕ, ◌≡◌, List, [], ◌∷◌, ◌++◌, map, codes}
use Rattle.rank_model.specs.declared.rank_line.RankLine.{RankLine}
use Rattle.rank_model.specs.declared.rank_line.RankSays.{RankSays}
use Rattle.rank_model.specs.declared.rank_line.RankSays.TheVariants.{Blank, System, Rank, NoForm}
use Rattle.rank_model.specs.Lines.{RanksRead, Ranks, BadLine, says, ranks_of, system_after}

-- ---- One line

-- the rank of link end E of node N in a line
abbrev pub rank_in : ℕ → ℕ → ℕ → ℕ → RankLine
rank_in line node end rank = record { line = line; node = node; end = end; rank = rank }

-- in line 7
abbrev pub rank_7 : ℕ → ℕ → ℕ → RankSays
rank_7 node end rank = Rank (rank_in 7 node end rank)

-- bytes of a line without its end, and what line 7 says by them
abbrev pub Said : Type 0
Said = List (List ℕ × RankSays)

abbrev pub AllSay : Said → Type 0
AllSay rows = map (λ (row : List ℕ × RankSays). says 7 row.0) rows ≡ map (λ (row : List ℕ × RankSays). row.1) rows

-- blanks, comments, numbers of both forms, and the least and the greatest ones
abbrev pub good_ranks : Said
good_ranks =
    (codes "rank 3:5 9", rank_7 3 5 9)
    ∷ (codes "rank 0:0 0", rank_7 0 0 0)
    ∷ (codes "rank 99:7 65535", rank_7 99 7 65535)
    ∷ (codes "rank 0x63:0x7 0xffff", rank_7 99 7 65535)
    ∷ (codes "rank 0xA:00 0xFfFf", rank_7 10 0 65535)
    ∷ (codes "rank 003:0005 00000000000000000000009", rank_7 3 5 9)
    ∷ (codes "  rank 3:5\t 9\t", rank_7 3 5 9)
    ∷ (codes "rank 3:5 9# forth", rank_7 3 5 9)
    ∷ (codes "rank 3:5 9 // forth # 10", rank_7 3 5 9)
    ∷ []

abbrev pub other_lines : Said
other_lines =
    ([], Blank)
    ∷ (codes " \t ", Blank)
    ∷ (codes "# rank 3:5 9", Blank)
    ∷ (codes "\t//system", Blank)
    ∷ (codes "system", System)
    ∷ (codes "  system\t# xs1 1", System)
    ∷ (codes "system// x", System)
    ∷ []

abbrev pub bad_ranks : Said
bad_ranks =
    -- words that are too few, too many or others
    (codes "rank", NoForm)
    ∷ (codes "rank 3:5", NoForm)
    ∷ (codes "rank 3:5 # 9", NoForm)
    ∷ (codes "rank 3:5 9 9", NoForm)
    ∷ (codes "Rank 3:5 9", NoForm)
    ∷ (codes "ranks 3:5 9", NoForm)
    ∷ (codes "3:5 9", NoForm)
    ∷ (codes "3:5 rank 9", NoForm)
    ∷ (codes "rank: 3:5 9", NoForm)
    ∷ (codes "system 1", NoForm)
    ∷ (codes "system system", NoForm)
    ∷ (codes "System", NoForm)
    ∷ (codes "systems", NoForm)
    ∷ (codes "xs1 1", NoForm)
    ∷ (codes "link 0:0 1:0 delay 5 gap 4", NoForm)
    ∷ (codes "end", NoForm)
    -- node and link end are one word with one colon
    ∷ (codes "rank 3 5 9", NoForm)
    ∷ (codes "rank 3: 5 9", NoForm)
    ∷ (codes "rank 3: 9", NoForm)
    ∷ (codes "rank :5 9", NoForm)
    ∷ (codes "rank : 9", NoForm)
    ∷ (codes "rank 35 9", NoForm)
    ∷ (codes "rank 3:5:9 9", NoForm)
    -- words that are no numbers of system texts
    ∷ (codes "rank x:5 9", NoForm)
    ∷ (codes "rank 3:1A 9", NoForm)
    ∷ (codes "rank 3:5 -9", NoForm)
    ∷ (codes "rank 3:5 +9", NoForm)
    ∷ (codes "rank 3:5 9.0", NoForm)
    ∷ (codes "rank 3:5 0b1", NoForm)
    ∷ (codes "rank 3:5 0X9", NoForm)
    ∷ (codes "rank 3:5 0x", NoForm)
    ∷ (codes "rank 3:5 9a", NoForm)
    -- numbers out of range, also those whose low bits are within it
    ∷ (codes "rank 100:5 9", NoForm)
    ∷ (codes "rank 0x64:5 9", NoForm)
    ∷ (codes "rank 259:5 9", NoForm)
    ∷ (codes "rank 3:8 9", NoForm)
    ∷ (codes "rank 3:0x8 9", NoForm)
    ∷ (codes "rank 3:261 9", NoForm)
    ∷ (codes "rank 3:5 65536", NoForm)
    ∷ (codes "rank 3:5 0x10000", NoForm)
    ∷ (codes "rank 3:5 4294967305", NoForm)
    ∷ (codes "rank 3:5 99999999999999999999999999999999999999999999", NoForm)
    -- bytes that are not allowed: alone, in a comment, and a carriage return that does not end its line
    ∷ (1 ∷ [], NoForm)
    ∷ (codes "# " ++ 1 ∷ [], NoForm)
    ∷ (codes "system # " ++ 128 ∷ [], NoForm)
    ∷ (codes "rank 3:5 9 # " ++ 127 ∷ [], NoForm)
    ∷ (codes "rank 3:5 9\r", NoForm)
    ∷ (codes "system\r", NoForm)
    ∷ []

pub record WorkedRankLines : Type 0 where
  pub good : AllSay good_ranks
  pub others : AllSay other_lines
  pub bad : AllSay bad_ranks

-- ---- Texts

-- these ranks before the line `system` with this number, and so many bytes with it
abbrev pub ranks_up_to : List RankLine → ℕ → ℕ → RanksRead
ranks_up_to lines system rest = Ranks (record { lines = lines; system = system; rest = rest })

-- two ranks, and a system text: 11 bytes for each rank and 7 for the line `system`
abbrev pub two_ranks : List ℕ
two_ranks = codes "rank 0:0 1\nrank 1:0 2\nsystem\nxs1 1\nnode 0 id 0\n"

-- blank lines and comments have numbers too
abbrev pub spaced_ranks : List ℕ
spaced_ranks = codes "# ranks\n\nrank 0x1:7 0xffff // back\n \nrank 1:7 3\n\tsystem # it\nrank 5\n"

-- lines that end by a carriage return and a line feed
abbrev pub returned_ranks : List ℕ
returned_ranks = codes "\r\nrank 0:0 1\r\nsystem\r\nxs1 1\r\n"

pub record WorkedRankTexts : Type 0 where
  pub two : ranks_of two_ranks ≡ ranks_up_to (rank_in 1 0 0 1 ∷ rank_in 2 1 0 2 ∷ []) 3 29
  pub two_system : system_after two_ranks (record { lines = []; system = 3; rest = 29 }) ≡ codes "xs1 1\nnode 0 id 0\n"
  -- 8, 1, 26, 2, 11 and 13 bytes; a link end that has two ranks is no fault of its lines, and nothing behind the line `system` is one
  pub spaced : ranks_of spaced_ranks ≡ ranks_up_to (rank_in 3 1 7 65535 ∷ rank_in 5 1 7 3 ∷ []) 6 61
  pub spaced_system : system_after spaced_ranks (record { lines = []; system = 6; rest = 61 }) ≡ codes "rank 5\n"
  -- 2, 12 and 8 bytes
  pub returned : ranks_of returned_ranks ≡ ranks_up_to (rank_in 2 0 0 1 ∷ []) 3 22
  pub returned_system : system_after returned_ranks (record { lines = []; system = 3; rest = 22 }) ≡ codes "xs1 1\r\n"
  -- no rank; the system text may be empty, also behind a line `system` that does not end
  pub none : ranks_of (codes "system\nxs1 1\n") ≡ ranks_up_to [] 1 7
  pub empty_system : ranks_of (codes "rank 0:0 1\nsystem\n") ≡ ranks_up_to (rank_in 1 0 0 1 ∷ []) 2 18
  pub not_ended : ranks_of (codes "rank 0:0 1\nsystem") ≡ ranks_up_to (rank_in 1 0 0 1 ∷ []) 2 17
  pub nothing_after : system_after (codes "rank 0:0 1\nsystem") (record { lines = []; system = 2; rest = 17 }) ≡ []
  -- the first line `system` decides
  pub twice : ranks_of (codes "system\nsystem\n") ≡ ranks_up_to [] 1 7
  -- without one, the line after the last is refused
  pub empty : ranks_of [] ≡ BadLine 1
  pub no_system : ranks_of (codes "rank 0:0 1\n") ≡ BadLine 2
  pub no_system_not_ended : ranks_of (codes "rank 0:0 1\n\n# system") ≡ BadLine 4
  -- the least line of no form is refused, also where the line `system` is missing
  pub system_text_alone : ranks_of (codes "xs1 1\nnode 0 id 0\n") ≡ BadLine 1
  pub past_the_rank : ranks_of (codes "rank 0:0 65535\nrank 0:1 65536\nsystem\n") ≡ BadLine 2
  pub past_the_end : ranks_of (codes "rank 0:7 1\n\nrank 0:8 1\nrank 100:0 1\n") ≡ BadLine 3
  pub past_the_nodes : ranks_of (codes "rank 99:0 1\r\nrank 100:0 1\r\nrank\r\n") ≡ BadLine 2
  pub bad_byte : ranks_of (codes "rank 0:0 1\n# " ++ (1 ∷ codes "\nsystem\n")) ≡ BadLine 2
  pub lone_return : ranks_of (codes "rank 0:0 1\nsystem\r") ≡ BadLine 2
  pub two_returns : ranks_of (codes "rank 0:0 1\r\r\nsystem\n") ≡ BadLine 1
