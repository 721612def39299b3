-- Answers to `routes`, worked out by hand.
use Rattle.std.specs.Prelude.{ℕ, ◌≡◌, true, false, Some, None, List, [], ◌∷◌, ◌++◌, codes}
use Rattle.answer_model.specs.declared.Answer.{Answer}
use Rattle.answer_model.specs.declared.Form.TheVariants.{Routes}
use Rattle.answer_model.specs.Forms.{form_of_words, asks_for_input, form_may_wait}
use Rattle.answer_model.specs.Top.{answer, taken, most_taken, most_reads}
use Rattle.worked_answers.specs.Answers.{done, frame_refused, source_refused}
use Rattle.worked_answers.specs.Pairs.{joined_pair, unjoined_pair, line_of_three}
use Rattle.worked_answers.specs.Pins.{script_refused}
use Rattle.worked_answers.specs.Snapshots.{told_usage}

abbrev pub routes_word : List (List ℕ)
routes_word = codes "routes" ∷ []

-- which form the word has, whether it waits, and how much it takes
pub record WorkedRoutesForm : Type 0 where
  pub routes : form_of_words routes_word ≡ Some Routes
  pub another_case : form_of_words (codes "Routes" ∷ []) ≡ None
  pub has_no_slots : form_of_words (codes "routes" ∷ codes "20" ∷ []) ≡ None
  pub no_empty_word : form_of_words (codes "routes" ∷ [] ∷ []) ≡ None
  pub usage : answer (codes "routes" ∷ codes "x" ∷ []) (codes "system\nxs1 1\n") ≡ told_usage
  pub goes_on : form_may_wait (form_of_words routes_word) ≡ false
  pub asks : asks_for_input (form_of_words routes_word) ≡ true
  pub takes : taken routes_word (codes "system\nxs1 1\n") ≡ 13
  pub most : most_taken (form_of_words routes_word) ≡ 4194305
  pub reads : most_reads (form_of_words routes_word) ≡ 4194305

abbrev pub routes_for : List ℕ → Answer
routes_for input = answer routes_word input

-- the line of three nodes with ways for all pairs of them
abbrev pub led_line : List ℕ
led_line =
    codes "xs1 1\nnode 0 id 0\nnode 1 id 1\nnode 2 id 3\nlink 0:0 1:0 delay 5 gap 4\nlink 1:1 2:0 delay 5 gap 4\n"
    ++ codes "bit 0 0 0\nbit 0 1 0\nbit 1 0 0\nbit 1 1 1\nbit 2 1 0\nsource 0\nend\nsource 1\nend\nsource 2\nend\n"

pub record WorkedVerdicts : Type 0 where
  -- no packet goes on to another node, or there is no other node
  pub no_nodes : routes_for (codes "system\nxs1 1\n") ≡ done (codes "routes yes\n")
  pub one_node : routes_for (codes "# none\n\nsystem\nxs1 1\nnode 0 id 0\nsource 0\nend\n") ≡ done (codes "routes yes\n")
  -- without a link it is network 0 that has no way
  pub unjoined : routes_for (codes "system\n" ++ unjoined_pair [] []) ≡ done (codes "no way 0 1 net 0\n")
  -- no line says what to do with bit 0, whatever the ranks are
  pub no_way : routes_for (codes "rank 0:0 2\nrank 1:1 1\nrank 2:0 7\nrank 1:0 9\nsystem\n" ++ line_of_three) ≡ done (codes "no way 0 1 net 0\n")
  -- a packet for the id 2, which no node has, leaves by 0:0 and goes on by 1:1
  pub no_rank : routes_for (codes "rank 0:0 2\nrank 1:1 1\nrank 2:0 1\nrank 1:0 2\nsystem\n" ++ led_line) ≡ done (codes "no rank 0:0 1:1 dest 0x00000002\n")

-- the pair, with these lines before it
abbrev pub ranked_pair : List ℕ → List ℕ
ranked_pair lines = lines ++ joined_pair [] []

pub record WorkedRanks : Type 0 where
  -- K1: no line `system`, a line of no form, and numbers out of range
  pub nothing : routes_for [] ≡ frame_refused (codes "ranks line 1: K1 bad line\n")
  pub no_system : routes_for (codes "rank 0:0 1\nrank 1:0 1\n") ≡ frame_refused (codes "ranks line 3: K1 bad line\n")
  pub system_text : routes_for (joined_pair [] []) ≡ frame_refused (codes "ranks line 1: K1 bad line\n")
  pub node_100 : routes_for (ranked_pair (codes "rank 0:0 1\nrank 100:0 1\nsystem\n")) ≡ frame_refused (codes "ranks line 2: K1 bad line\n")
  pub end_8 : routes_for (ranked_pair (codes "rank 0:8 1\nsystem\n")) ≡ frame_refused (codes "ranks line 1: K1 bad line\n")
  pub rank_65536 : routes_for (ranked_pair (codes "\nrank 0:0 65536\nsystem\n")) ≡ frame_refused (codes "ranks line 2: K1 bad line\n")
  -- K1 comes before what the system text is refused for, which comes before the other kinds, with lines from 1 on
  pub line_first : routes_for (codes "rank 5:5 1\nrank\nsystem\nfoo\n") ≡ frame_refused (codes "ranks line 2: K1 bad line\n")
  pub no_text : routes_for (codes "rank 0:0 1\nsystem") ≡ frame_refused (codes "system line 1: S1 first line is not xs1 1 or xs1 2\n")
  pub system_first : routes_for (codes "rank 5:5 1\nrank 5:5 1\nsystem\nxs1 1\nfoo\n") ≡ frame_refused (codes "system line 2: S2 bad line\n")
  pub source_first : routes_for (codes "rank 5:5 1\nsystem\nxs1 1\nnode 0 id 0\nsource 0\nfoo\nend\n") ≡ source_refused (codes "source 0 line 1: A2 unknown name\n")
  pub script_first : routes_for (codes "rank 5:5 1\nsystem\nxs1 1\npins\nfoo\nend\n") ≡ script_refused (codes "pins line 1: P1 bad line\n")
  -- K2 and K3 at the least line, and K4 at the line `system`
  pub no_end : routes_for (ranked_pair (codes "rank 0:0 1\n\nrank 1:1 1\nrank 0:0 1\nsystem\n")) ≡ frame_refused (codes "ranks line 3: K2 no such link end\n")
  pub twice : routes_for (ranked_pair (codes "rank 0:0 1\nrank 0x0:00 2\nrank 1:1 1\nsystem\n")) ≡ frame_refused (codes "ranks line 2: K3 given twice\n")
  pub missing : routes_for (ranked_pair (codes "rank 1:0 1\n# 0:0\nsystem\n")) ≡ frame_refused (codes "ranks line 3: K4 rank missing\n")
  pub not_there : routes_for (codes "rank 0:0 1\nsystem\nxs1 1\n") ≡ frame_refused (codes "ranks line 1: K2 no such link end\n")
