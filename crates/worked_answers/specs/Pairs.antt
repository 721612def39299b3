-- Answers for two and for three nodes, worked out by hand.
use Rattle.std.specs.Prelude.{ℕ, ◌≡◌, List, ◌++◌, codes}
use Rattle.answer_model.specs.Top.{answer}
use Rattle.worked_answers.specs.Answers.{run_for, done}

-- two nodes that no link joins, with these sources
abbrev pub unjoined_pair : List ℕ → List ℕ → List ℕ
unjoined_pair first second =
    codes "xs1 1\nnode 0 id 0\nnode 1 id 1\nsource 0\n" ++ (first ++ (codes "end\nsource 1\n" ++ (second ++ codes "end\n")))

-- two nodes that a link joins, with these sources
abbrev pub joined_pair : List ℕ → List ℕ → List ℕ
joined_pair first second =
    codes "xs1 1\nnode 0 id 0\nnode 1 id 1\nlink 0:0 1:0 delay 5 gap 4\nbit 0 0 0\nbit 1 0 0\nsource 0\n"
    ++ (first ++ (codes "end\nsource 1\n" ++ (second ++ codes "end\n")))

-- an END to channel end 0 of the node with id 1
abbrev pub sender_source : List ℕ
sender_source = codes "getr r0, 2\nldw r1, dp[0]\nsetd res[r0], r1\noutct res[r0], 1\nfreet\n.data\n.word 0x00010002\n"

abbrev pub receiver_source : List ℕ
receiver_source = codes "getr r0, 2\nchkct res[r0], 1\nfreet\n"

-- three nodes in a line: node 0 sends END to the last one over node 1, which sends PAUSE there after it
abbrev pub line_of_three : List ℕ
line_of_three =
    codes "xs1 1\nnode 0 id 0\nnode 1 id 1\nnode 2 id 3\nlink 0:0 1:0 delay 5 gap 4\nlink 1:1 2:0 delay 5 gap 4\nbit 0 1 0\nbit 1 1 1\n"
    ++ codes "source 0\ngetr r0, 2\nldw r1, dp[0]\nsetd res[r0], r1\noutct res[r0], 1\nfreet\n.data\n.word 0x00030002\nend\n"
    ++ codes "source 1\ngetr r0, 2\nldw r1, dp[0]\nsetd res[r0], r1\nnop\nnop\nnop\nnop\noutct res[r0], 2\nfreet\n.data\n.word 0x00030102\nend\n"
    ++ codes "source 2\ngetr r0, 2\ngetr r1, 2\nfreet\nend\n"

-- a byte and END each way: node 1 answers with the byte plus 3, of which the low byte goes out
abbrev pub asking_source : List ℕ
asking_source = codes "getr r0, 2\nldw r1, dp[0]\nsetd res[r0], r1\nldc r2, 255\noutt res[r0], r2\noutct res[r0], 1\nint r3, res[r0]\nchkct res[r0], 1\nstw r3, dp[1]\nfreet\n.data\n.word 0x00010002\n"

abbrev pub answering_source : List ℕ
answering_source = codes "getr r0, 2\nldc r1, 2\nsetd res[r0], r1\nint r3, res[r0]\nchkct res[r0], 1\nadd r3, r3, 3\noutt res[r0], r3\noutct res[r0], 1\nfreet\n"

pub record WorkedPairs : Type 0 where
  -- node 0 is told before node 1
  pub both_in_one_slot : answer (run_for (codes "1")) (unjoined_pair (codes "") (codes "")) ≡
      done (codes "0 n0.t0 trap 2 pc 0x00040000 data 0x00040000\n0 n0.t0 halt\n0 n1.t0 trap 2 pc 0x00040000 data 0x00040000\n"
      ++ codes "0 n1.t0 halt\nn0.t0 halted\nn1.t0 halted\nend 1\n")
  -- node 1 is told first, since its slot is earlier
  pub in_turn : answer (run_for (codes "5")) (unjoined_pair (codes "nop\n") (codes "")) ≡
      done (codes "0 n1.t0 trap 2 pc 0x00040000 data 0x00040000\n0 n1.t0 halt\n4 n0.t0 trap 2 pc 0x00040004 data 0x00040004\n"
      ++ codes "4 n0.t0 halt\nn0.t0 halted\nn1.t0 halted\nend 5\n")
  -- header bytes at 13, 17, 21 and END at 25; it arrives at 30, and the last credit leaves then
  pub pair : answer (run_for (codes "40")) (joined_pair sender_source receiver_source) ≡
      done (codes "30 n1 chan 0 ct 1\nlink 0:0>1:0 tokens 4 credits 0\nlink 1:0>0:0 tokens 0 credits 4\n"
      ++ codes "n0 mem 0x00010000 0x00010002\nend 40\n")
  pub pair_cut : answer (run_for (codes "30")) (joined_pair sender_source receiver_source) ≡
      done (codes "link 0:0>1:0 tokens 4 credits 0\nlink 1:0>0:0 tokens 0 credits 3\nn0 mem 0x00010000 0x00010002\nend 30\n")
  -- no channel end of node 1 is in use
  pub lost : answer (run_for (codes "40")) (joined_pair sender_source (codes "freet\n")) ≡
      done (codes "27 n1 lost 0x00010002\nlink 0:0>1:0 tokens 4 credits 0\nlink 1:0>0:0 tokens 0 credits 4\n"
      ++ codes "n0 mem 0x00010000 0x00010002\nend 40\n")
  -- the last node's END comes by two links, and the PAUSE of node 1 is not delivered
  pub three : answer (run_for (codes "70")) line_of_three ≡
      done (codes "44 n2 chan 0 ct 1\nlink 0:0>1:0 tokens 4 credits 0\nlink 1:0>0:0 tokens 0 credits 4\n"
      ++ codes "link 1:1>2:0 tokens 8 credits 0\nlink 2:0>1:1 tokens 0 credits 8\nn0 mem 0x00010000 0x00030002\n"
      ++ codes "n1 mem 0x00010000 0x00030102\nend 70\n")
  -- a byte is taken in the slot in which it is delivered, and END in its own
  pub both_ways : answer (run_for (codes "80")) (joined_pair asking_source answering_source) ≡
      done (codes "34 n1 chan 0 dt 255\n38 n1 chan 0 ct 1\n64 n0 chan 0 dt 2\n68 n0 chan 0 ct 1\n"
      ++ codes "link 0:0>1:0 tokens 5 credits 5\nlink 1:0>0:0 tokens 5 credits 5\nn0 mem 0x00010000 0x00010002\n"
      ++ codes "n0 mem 0x00010004 0x00000002\nend 80\n")
