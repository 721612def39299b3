-- Answers to `play SLOTS`, worked out by hand.
use Rattle.std.specs.Prelude.{ℕ, ◌≡◌, List, [], ◌∷◌, ◌++◌, codes}
use Rattle.answer_model.specs.Top.{answer}
use Rattle.worked_answers.specs.Answers.{lone, done, no_usage, frame_refused, source_refused}
use Rattle.worked_answers.specs.Pairs.{joined_pair, sender_source, receiver_source}
use Rattle.worked_answers.specs.Pins.{with_script, script_refused}

abbrev pub play_for : List ℕ → List (List ℕ)
play_for slots = codes "play" ∷ slots ∷ []

-- the pair in which node 0 sends END to node 1, with the steps of a schedule, which begin at line 22
abbrev pub played_pair : List ℕ → List ℕ
played_pair steps = joined_pair sender_source receiver_source ++ (codes "play\n" ++ (steps ++ codes "end\n"))

-- node 3 has 0 as its position and node 7 has 1, and neither does anything
abbrev pub numbered_pair : List ℕ → List ℕ
numbered_pair steps =
    codes "xs1 1\nnode 7 id 1\nnode 3 id 0\nlink 7:2 3:4 delay 9 gap 4\nplay\n" ++ (steps ++ codes "end\nsource 7\nfreet\nend\nsource 3\nfreet\nend\n")

-- each node runs as far as it may, five slots past what it has seen, and hands on what it sent
abbrev pub in_turns : List ℕ
in_turns =
    codes "run 0 10\nsend 0:0\ntake 1:0\nrun 1 20\nsend 1:0\ntake 0:0\nrun 0 20\nsend 0:0\n"

abbrev pub in_more_turns : List ℕ
in_more_turns =
    in_turns ++ codes "take 1:0\nrun 1 20\nsend 1:0\ntake 0:0\nrun 0 20\nsend 0:0\ntake 1:0\nrun 1 20\nsend 1:0\ntake 0:0\nrun 0 20\nsend 0:0\ntake 1:0\nrun 1 20\nsend 1:0\n"

abbrev pub told_in_turns : List ℕ
told_in_turns =
    codes "run 0 clock 5\nsend 0:0 published 5\ntake 1:0 seen 5\nrun 1 clock 10\nsend 1:0 published 10\ntake 0:0 seen 10\nrun 0 clock 15\nsend 0:0 published 15\nentry 0:0 13 dt 0\n"

-- the header bytes are sent at 13, 17 and 21 and END at 25; each arrives five slots later, and its credit is sent then
abbrev pub told_in_more_turns : List ℕ
told_in_more_turns =
    told_in_turns
    ++ codes "take 1:0 seen 15\nrun 1 clock 20\nsend 1:0 published 20\nentry 1:0 18 credit\ntake 0:0 seen 20\nrun 0 clock 25\nsend 0:0 published 25\nentry 0:0 17 dt 1\nentry 0:0 21 dt 0\n"
    ++ codes "take 1:0 seen 25\nrun 1 clock 30\nsend 1:0 published 30\nentry 1:0 22 credit\nentry 1:0 26 credit\ntake 0:0 seen 30\nrun 0 clock 33\nsend 0:0 published 33\nentry 0:0 25 ct 1\n"
    ++ codes "take 1:0 seen 33\nrun 1 clock 33\nsend 1:0 published 33\nentry 1:0 30 credit\n"

pub record WorkedPlays : Type 0 where
  pub in_turns : answer (play_for (codes "40")) (played_pair in_turns) ≡ done (told_in_turns ++ codes "end play\n")
  -- the limit stops both nodes at last
  pub in_more_turns : answer (play_for (codes "33")) (played_pair in_more_turns) ≡ done (told_in_more_turns ++ codes "end play\n")
  -- a take before anything is published sees nothing, and the limit of 3 comes before the horizon of 5
  pub limit_of_3 : answer (play_for (codes "3")) (played_pair (codes "take 1:0\nrun 1 20\nsend 1:0\nrun 1 20\n")) ≡
      done (codes "take 1:0 seen 0\nrun 1 clock 3\nsend 1:0 published 3\nrun 1 clock 3\nend play\n")
  -- its horizon stops node 1 at 5, and it goes on only where more is seen
  pub blocked : answer (play_for (codes "40")) (played_pair (codes "run 1 4\nrun 1\nrun 1\ntake 1:0\nrun 1 9\nrun 0\nsend 0:0\ntake 1:0\nrun 1 9\n")) ≡
      done (codes "run 1 clock 4\nrun 1 clock 5\nrun 1 clock 5\ntake 1:0 seen 0\nrun 1 clock 5\nrun 0 clock 1\nsend 0:0 published 1\ntake 1:0 seen 1\nrun 1 clock 6\nend play\n")
  -- nodes are told by their numbers, and link ends too
  pub by_number : answer (play_for (codes "40")) (numbered_pair (codes "run 7 2\nsend 7:2\ntake 3:4\nrun 3 100\nsend 3:4\ntake 7:2\nrun 7 100\n")) ≡
      done (codes "run 7 clock 2\nsend 7:2 published 2\ntake 3:4 seen 2\nrun 3 clock 11\nsend 3:4 published 11\ntake 7:2 seen 11\nrun 7 clock 20\nend play\n")
  -- no steps, without a section and with one
  pub no_section : answer (play_for (codes "40")) (joined_pair sender_source receiver_source) ≡ done (codes "end play\n")
  pub no_steps : answer (play_for (codes "40")) (played_pair []) ≡ done (codes "end play\n")
  pub no_nodes : answer (play_for (codes "0")) (codes "xs1 1\n") ≡ done (codes "end play\n")
  pub most_slots : answer (play_for (codes "16000000")) (lone []) ≡ done (codes "end play\n")
  pub leading_zeros : answer (play_for (codes "0000000000")) (lone []) ≡ done (codes "end play\n")
  pub no_slots : answer (codes "play" ∷ []) [] ≡ no_usage
  pub a_mode : answer (codes "play" ∷ codes "40" ∷ codes "serial" ∷ []) (lone []) ≡ no_usage
  pub too_many_slots : answer (play_for (codes "16000001")) (lone []) ≡ no_usage
  pub signed_slots : answer (play_for (codes "+5")) (lone []) ≡ no_usage
  pub empty_slots : answer (play_for []) (lone []) ≡ no_usage
  pub eleven_digits : answer (play_for (codes "00000000040")) (lone []) ≡ no_usage
  pub other_case : answer (codes "Play" ∷ codes "40" ∷ []) (lone []) ≡ no_usage
  pub no_input : answer (play_for (codes "1")) [] ≡ frame_refused (codes "system line 1: S1 first line is not xs1 1 or xs1 2\n")
  pub bad_step : answer (play_for (codes "1")) (played_pair (codes "run 0 2\nwalk 1\n")) ≡ frame_refused (codes "system line 23: S2 bad line\n")
  pub no_such_link_end : answer (play_for (codes "1")) (played_pair (codes "run 0 2\ntake 1:1\n")) ≡ frame_refused (codes "system line 23: S12 no such node or link end\n")
  pub bad_source : answer (play_for (codes "1")) (lone (codes "foo\n")) ≡ source_refused (codes "source 0 line 1: A2 unknown name\n")
  pub bad_script : answer (play_for (codes "1")) (with_script [] (codes "5 0:4A 16\n")) ≡ script_refused (codes "pins line 1: P4 value too wide\n")
